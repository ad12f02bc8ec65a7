use Rattle.board_bots.proofs.Told.{on_ok, told_more}
use Rattle.board_bots.proofs.answers.keep.Goals as goal

pub returns-clause-ok : goal.returns-clause-ok
returns-clause-ok c = on_ok _ _ c.push.result (told_more c.args.runs.now.items c.push.new.runs.items _) c.push.ensures.ok
