use Rattle.std.proofs.Common.{ap, arith}
use Rattle.game_sheet.specs.declared.ids.TheConstants.{MOST_ACTIONS}
use Rattle.phase_flow.specs.declared.table.TheConstants.{MOST_COUNT}
use Rattle.reducer.proofs.States.{copy_sound}
use Rattle.reducer.proofs.act.ask.Goals as goal

pub run_event-requires-clause-sound : goal.run_event-requires-clause-sound
run_event-requires-clause-sound g c =
    copy_sound (g.X.Game.rules c.args.game.now).sheet MOST_ACTIONS MOST_COUNT c.args.table.now.ctx c.in-Ok.copied.ctx c.args.table.now.active c.in-Ok.copied.active c.bounds_grow.ensures (omega arith) (ap (λ t. t.ctx) c.in-Ok.ensures) (ap (λ t. t.active) c.in-Ok.ensures) c.requires.sound
