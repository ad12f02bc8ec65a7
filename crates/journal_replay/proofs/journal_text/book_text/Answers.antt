use Rattle.journal_replay.proofs.Reading.{replayed}
use Rattle.journal_replay.proofs.journal_text.book_text.Goals as goal

pub returns-in-Ok-clause-replays : goal.returns-in-Ok-clause-replays
returns-in-Ok-clause-replays c file o = replayed file c.in-Ok.text.items c.args.count c.args.book.object o (c.in-Ok.ensures o.h o.stands)
