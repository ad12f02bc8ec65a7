-- The present checkpoint has room and fits, and a seat that may act is one of the match.
use Rattle.std.proofs.Common.{◌≡◌, ◌<◌, ◌≤◌, length, arith, ap, refl, sym, subst, ◌∙◌}
use Rattle.reducer.specs.Sound.{IsSound}
use Rattle.reducer.specs.Trails.{standing_at}
use Rattle.reducer.specs.Walk.{Fits}
use Rattle.reducer.proofs.Seats.{may_is_seat}
use Rattle.reducer.proofs.States.{trail_held}
use Rattle.reducer.proofs.Stepping.{applied, refused_on}
use Rattle.reducer.proofs.preparing.apply.Goals as goal

pub perform-requires-clause-room : goal.perform-requires-clause-room
perform-requires-clause-room g c =
    let rules = g.X.Game.rules c.args.game.now in
    let at : IsSound rules (standing_at c.state.inside.number c.state.inside.trail) = subst (IsSound rules) (sym c.state.view_is) c.requires.sound in
    let numbers : c.state.inside.number ≡ c.args.state.now.number = ap (λ s. s.number) c.state.view_is in
    let most : length c.state.inside.trail.done ≤ c.state.inside.number = at.done in
    let count : c.now.result.now.count ≡ length c.state.inside.trail.done = ap (λ w. w.count) c.now.ensures ∙ c.state.invariant.now in
    omega (arith, c.requires.room)

pub perform-requires-clause-fits : goal.perform-requires-clause-fits
perform-requires-clause-fits g c =
    let rules = g.X.Game.rules c.args.game.now in
    let trail = trail_held rules c.state.inside.number c.state.inside.trail c.state.inside.trail c.args.state.now (record { shown = c.state.view_is; counted = c.state.invariant; sound = c.requires.sound }) refl in
    subst (Fits rules) (sym c.now.ensures) trail.now_fits

pub perform-requires-clause-seat : goal.perform-requires-clause-seat
perform-requires-clause-seat g c =
    let rules = g.X.Game.rules c.args.game.now in
    let seated : c.args.seat < c.args.state.now.table.ctx.seats =
    may_is_seat rules.sheet c.args.state.now.number c.args.state.now.table.ctx c.args.state.now.table.active c.args.seat c.requires.sound.table c.requires.active in
    let seats : c.now.result.now.table.ctx.seats ≡ c.args.state.now.table.ctx.seats = ap (λ w. w.table.ctx.seats) c.now.ensures ∙ ap (λ s. s.table.ctx.seats) c.state.view_is in
    omega arith

pub returns-in-Ok-made : goal.returns-in-Ok-made
returns-in-Ok-made g c =
    record {
      answer =
          applied (g.X.Game.rules c.args.game.now) c.state.inside.number c.state.inside.trail c.args.state.now c.args.seat c.args.act.now c.now.result.now c.in-Ok.next c.in-Ok-made.prepared
          (record { shown = c.state.view_is; counted = c.state.invariant; sound = c.requires.sound }) c.requires.room c.requires.active c.requires.act c.requires.deed c.now.ensures c.in-Ok.ensures.answer c.in-Ok.ensures.fits c.in-Ok-made.ensures;
    }

pub returns-in-Err : goal.returns-in-Err
returns-in-Err g c =
    record {
      answer =
          refused_on (g.X.Game.rules c.args.game.now) c.state.inside.number c.state.inside.trail c.args.state.now c.now.result.now c.args.seat c.args.act.now c.in-Err.why c.state.view_is c.requires.deed c.now.ensures c.in-Err.ensures.answer;
    }
