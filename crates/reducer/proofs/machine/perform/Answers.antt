use Rattle.std.proofs.Common.{ap}
use Rattle.dice_words.specs.Strip.{Strip}
use Rattle.game_sheet.specs.declared.ids.TheConstants.{MOST_ACTIONS}
use Rattle.reducer.proofs.Performing.{breaks}
use Rattle.reducer.proofs.machine.perform.Goals as goal

pub act_on-requires-clause-sound : goal.act_on-requires-clause-sound
act_on-requires-clause-sound g c =
    c.bounds_grow.ensures (g.X.Game.rules c.args.game.now).sheet c.args.from.now.count MOST_ACTIONS c.args.from.now.table.ctx c.args.from.now.table.active c.requires.fits.count c.requires.fits.table

pub returns-in-Err-clause-answer : goal.returns-in-Err-clause-answer
returns-in-Err-clause-answer g c =
    breaks (g.X.Game.rules c.args.game.now) c.args.from.now c.args.seat c.args.act.now c.in-Err.why c.live-tape.result.left c.act_on.new.tape.left
    (ap (λ (s : Strip). s.left) c.live-tape.ensures.value) c.in-Err.ensures.answer
