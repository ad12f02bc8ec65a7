use Rattle.std.proofs.Common.{sym}
use Rattle.game_sheet.specs.Viewer.{seat_of}
use Rattle.room_history.specs.Rule.{has_key}
use Rattle.room_history.specs.Verdict.{is_named}
use Rattle.room_history.proofs.RuleLaws.{public_admits}
use Rattle.match_master.proofs.judge.judge.Goals as goal

pub play-requires-clause-admitted : goal.play-requires-clause-admitted
play-requires-clause-admitted g c =
    public_admits (g.X.Game.rules c.args.running.now.game).sheet c.args.running.now.state.table.ctx c.args.running.now.state.number (is_named c.args.room c.args.running.now.serial c.args.submission.now.name) (seat_of c.args.viewer.now) (has_key c.args.viewer.now c.args.submission.now.key)
    c.args.submission.now.asked c.args.submission.now.number (sym c.in-None.ensures)
