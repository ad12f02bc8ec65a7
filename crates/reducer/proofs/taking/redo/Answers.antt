-- The trail that is kept is the machine's, and so is the one that it becomes.
use Rattle.std.proofs.Common.{refl}
use Rattle.game_sheet.specs.declared.act.Act.TheVariants.{Redo}
use Rattle.reducer.proofs.States.{next_counted, next_sound, trail_held}
use Rattle.reducer.proofs.Stepping.{moved_to, went_again}
use Rattle.reducer.proofs.taking.redo.Goals as goal

pub redo-redone-requires : goal.redo-redone-requires
redo-redone-requires g c = trail_held (g.X.Game.rules c.args.game.now) c.state.inside.number c.state.inside.trail c.state.inside.trail c.args.state.now (record { shown = c.state.view_is; counted = c.state.invariant; sound = c.requires.sound }) refl

pub invariant_of-state : goal.invariant_of-state
invariant_of-state g c = next_counted (g.X.Game.rules c.args.game.now) c.state.inside.trail c.redo-redone.new.self (went_again (g.X.Game.rules c.args.game.now) c.redo-redone.result c.state.inside.trail c.redo-redone.new.self c.redo-redone.ensures.sure c.redo-redone.ensures.moves).first c.state.invariant c.redo-redone.ensures.trail

pub returns-clause-after : goal.returns-clause-after
returns-clause-after g c = λ seat.
    moved_to (g.X.Game.rules c.args.game.now) c.state.inside.number c.state.inside.trail c.redo-redone.new.self c.args.state.now (record { seat = seat; act = Redo }) c.state.view_is (went_again (g.X.Game.rules c.args.game.now) c.redo-redone.result c.state.inside.trail c.redo-redone.new.self c.redo-redone.ensures.sure c.redo-redone.ensures.moves) c.redo-redone.ensures.trail

pub returns-clause-sound : goal.returns-clause-sound
returns-clause-sound g c =
    let moved = (went_again (g.X.Game.rules c.args.game.now) c.redo-redone.result c.state.inside.trail c.redo-redone.new.self c.redo-redone.ensures.sure c.redo-redone.ensures.moves) in
    next_sound (g.X.Game.rules c.args.game.now) c.state.inside.number c.state.inside.trail c.redo-redone.new.self c.args.state.now c.bounds_grow.ensures (record { shown = c.state.view_is; counted = c.state.invariant; sound = c.requires.sound }) c.requires.room moved.first moved.few c.redo-redone.ensures.trail
