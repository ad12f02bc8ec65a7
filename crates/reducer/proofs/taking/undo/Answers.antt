-- The trail that is kept is the machine's, and so is the one that it becomes.
use Rattle.std.proofs.Common.{refl}
use Rattle.game_sheet.specs.declared.act.Act.TheVariants.{Undo}
use Rattle.reducer.proofs.States.{next_counted, next_sound, trail_held}
use Rattle.reducer.proofs.Stepping.{moved_to, went_back}
use Rattle.reducer.proofs.taking.undo.Goals as goal

pub undo-undone-requires : goal.undo-undone-requires
undo-undone-requires g c = trail_held (g.X.Game.rules c.args.game.now) c.state.inside.number c.state.inside.trail c.state.inside.trail c.args.state.now (record { shown = c.state.view_is; counted = c.state.invariant; sound = c.requires.sound }) refl

pub invariant_of-state : goal.invariant_of-state
invariant_of-state g c = next_counted (g.X.Game.rules c.args.game.now) c.state.inside.trail c.undo-undone.new.self (went_back (g.X.Game.rules c.args.game.now) c.undo-undone.result c.state.inside.trail c.undo-undone.new.self c.undo-undone.ensures.sure c.undo-undone.ensures.moves).first c.state.invariant c.undo-undone.ensures.trail

pub returns-clause-after : goal.returns-clause-after
returns-clause-after g c = λ seat.
    moved_to (g.X.Game.rules c.args.game.now) c.state.inside.number c.state.inside.trail c.undo-undone.new.self c.args.state.now (record { seat = seat; act = Undo }) c.state.view_is (went_back (g.X.Game.rules c.args.game.now) c.undo-undone.result c.state.inside.trail c.undo-undone.new.self c.undo-undone.ensures.sure c.undo-undone.ensures.moves) c.undo-undone.ensures.trail

pub returns-clause-sound : goal.returns-clause-sound
returns-clause-sound g c =
    let moved = (went_back (g.X.Game.rules c.args.game.now) c.undo-undone.result c.state.inside.trail c.undo-undone.new.self c.undo-undone.ensures.sure c.undo-undone.ensures.moves) in
    next_sound (g.X.Game.rules c.args.game.now) c.state.inside.number c.state.inside.trail c.undo-undone.new.self c.args.state.now c.bounds_grow.ensures (record { shown = c.state.view_is; counted = c.state.invariant; sound = c.requires.sound }) c.requires.room moved.first moved.few c.undo-undone.ensures.trail
