use Rattle.std.proofs.Common.{ap, arith}
use Rattle.game_sheet.specs.declared.ids.TheConstants.{MOST_ACTIONS}
use Rattle.phase_flow.specs.declared.table.TheConstants.{MOST_COUNT}
use Rattle.reducer.proofs.States.{copy_sound}
use Rattle.reducer.proofs.act.play.Goals as goal

pub moved-requires-clause-sound : goal.moved-requires-clause-sound
moved-requires-clause-sound g c =
    copy_sound (g.X.Game.rules c.args.game.now).sheet MOST_ACTIONS MOST_COUNT c.args.table.now.ctx c.in-Ok-with_state.played.ctx c.args.table.now.active c.in-Ok-with_state.played.active c.bounds_grow.ensures (omega arith) (ap (λ t. t.ctx) c.in-Ok-with_state.ensures) (ap (λ t. t.active) c.in-Ok-with_state.ensures) c.requires.sound
