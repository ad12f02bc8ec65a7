-- The last action and the checkpoint before it are the ends of what is done and kept.
use Rattle.std.proofs.Common.{Some, None, ap, ◌∙◌}
use Rattle.std.specs.Arc.{arc_value}
use Rattle.reducer.proofs.Stepping.{undo_asked, undo_prepared}
use Rattle.reducer.proofs.preparing.undo.Goals as goal

pub returns-in-Some-undo_broken : goal.returns-in-Some-undo_broken
returns-in-Some-undo_broken g c =
    record {
      answer =
          undo_asked (g.X.Game.rules c.args.game.now) c.state.inside.number c.state.inside.trail c.args.state.now c.now.result.now c.deref.result.now c.args.seat c.in-Some.last.now (Some c.in-Some-undo_broken.rule)
          (record { shown = c.state.view_is; counted = c.state.invariant; sound = c.requires.sound }) c.in-Some.ensures (ap (λ w. Some w) c.deref.ensures ∙ c.in-Some-before.ensures) c.now.ensures c.in-Some-undo_broken.ensures;
    }

pub returns-in-Ok : goal.returns-in-Ok
returns-in-Ok g c =
    record {
      answer =
          undo_prepared (g.X.Game.rules c.args.game.now) c.state.inside.number c.state.inside.trail c.args.state.now (arc_value c.in-Some-before.before.now) c.args.seat c.in-Some.last.now c.in-Ok.prepared
          (record { shown = c.state.view_is; counted = c.state.invariant; sound = c.requires.sound }) c.requires.room c.requires.active c.in-Some.ensures c.in-Some-before.ensures
          (undo_asked (g.X.Game.rules c.args.game.now) c.state.inside.number c.state.inside.trail c.args.state.now c.now.result.now c.deref.result.now c.args.seat c.in-Some.last.now None
          (record { shown = c.state.view_is; counted = c.state.invariant; sound = c.requires.sound }) c.in-Some.ensures (ap (λ w. Some w) c.deref.ensures ∙ c.in-Some-before.ensures) c.now.ensures c.in-None.ensures)
          c.in-Ok.ensures;
    }
