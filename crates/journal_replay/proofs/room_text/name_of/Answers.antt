use Rattle.journal_replay.proofs.Asking.{name_told}
use Rattle.journal_replay.proofs.room_text.name_of.Goals as goal

pub returns-clause-name : goal.returns-clause-name
returns-clause-name c h stands = name_told c.args.book.now.room h _ c.apply.result c.name_said.result (c.apply.ensures.answered h stands) c.name_said.ensures
