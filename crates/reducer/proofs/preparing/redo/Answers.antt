-- The next action and the checkpoint after it are the ends of what is undone and kept.
use Rattle.std.proofs.Common.{ap, eq-eqb, sym, ◌∙◌}
use Rattle.std.specs.Arc.{arc_value}
use Rattle.reducer.specs.Accepted.{Accepted}
use Rattle.reducer.proofs.Stepping.{redo_prepared}
use Rattle.reducer.proofs.preparing.redo.Goals as goal

pub returns-in-Ok : goal.returns-in-Ok
returns-in-Ok g c =
    record {
      answer =
          redo_prepared (g.X.Game.rules c.args.game.now) c.state.inside.number c.state.inside.trail c.args.state.now (arc_value c.in-Some-ahead.after.now) c.args.seat c.in-Some.next.now c.in-Ok.prepared
          (record { shown = c.state.view_is; counted = c.state.invariant; sound = c.requires.sound }) c.requires.room c.requires.active c.in-Some.ensures c.in-Some-ahead.ensures
          (eq-eqb c.in-Some.next.now.seat c.args.seat (sym (ap (λ (d : Accepted). d.seat) c.next.view_is) ∙ c.if-next-seat.false)) c.in-Ok.ensures;
    }
