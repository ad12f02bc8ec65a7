-- The step that was prepared is one of the game's machine.
use Rattle.std.proofs.Common.{◌≡◌, ◌+◌, ◌≤◌, length, arith, ap, refl, subst, sym}
use Rattle.reducer.specs.Change.{coming}
use Rattle.reducer.specs.Sound.{IsSound}
use Rattle.reducer.specs.Trails.{standing_at}
use Rattle.reducer.specs.declared.change.Change.TheVariants.{On}
use Rattle.reducer.proofs.States.{next_counted, next_sound, one_longer, trail_held}
use Rattle.reducer.proofs.Stepping.{fits_on, steps_on, went_on}
use Rattle.reducer.proofs.taking.apply.Goals as goal

pub commit-requires-clause-trail : goal.commit-requires-clause-trail
commit-requires-clause-trail g c = trail_held (g.X.Game.rules c.args.game.now) c.state.inside.number c.state.inside.trail c.state.inside.trail c.args.state.now (record { shown = c.state.view_is; counted = c.state.invariant; sound = c.requires.sound }) refl

pub commit-requires-clause-state : goal.commit-requires-clause-state
commit-requires-clause-state g c = fits_on (g.X.Game.rules c.args.game.now) c.args.state.now (coming (c.args.state.now.number + 1) (On c.args.step)) c.args.step.after c.requires.ready c.requires.deed refl refl

pub commit-requires-clause-step : goal.commit-requires-clause-step
commit-requires-clause-step g c =
    steps_on (g.X.Game.rules c.args.game.now) c.state.inside.number c.state.inside.trail c.args.state.now (coming (c.args.state.now.number + 1) (On c.args.step)) c.args.step.act c.args.step.after
    (record { shown = c.state.view_is; counted = c.state.invariant; sound = c.requires.sound }) c.requires.ready c.requires.deed refl refl refl

pub commit-requires-clause-room : goal.commit-requires-clause-room
commit-requires-clause-room g c =
    let rules = (g.X.Game.rules c.args.game.now) in
    let at : IsSound rules (standing_at c.state.inside.number c.state.inside.trail) = subst (IsSound rules) (sym c.state.view_is) c.requires.sound in
    let numbers : c.state.inside.number ≡ c.args.state.now.number = ap (λ s. s.number) c.state.view_is in
    let most : length c.state.inside.trail.done ≤ c.state.inside.number = at.done in
    omega (arith, c.requires.ready.room)

pub invariant_of-state : goal.invariant_of-state
invariant_of-state g c = next_counted (g.X.Game.rules c.args.game.now) c.state.inside.trail c.commit.new.self c.commit.ensures.moves.first c.state.invariant c.commit.ensures.trail

pub returns-clause-after : goal.returns-clause-after
returns-clause-after g c =
    went_on (g.X.Game.rules c.args.game.now) c.state.inside.number c.state.inside.trail c.commit.new.self c.args.state.now c.args.step.act c.args.step.act c.state.view_is c.requires.deed refl c.commit.ensures.moves c.commit.ensures.trail

pub returns-clause-sound : goal.returns-clause-sound
returns-clause-sound g c =
    next_sound (g.X.Game.rules c.args.game.now) c.state.inside.number c.state.inside.trail c.commit.new.self c.args.state.now c.bounds_grow.ensures
    (record { shown = c.state.view_is; counted = c.state.invariant; sound = c.requires.sound }) c.requires.ready.room c.commit.ensures.moves.first (one_longer c.commit.ensures.moves.done) c.commit.ensures.trail
