use Rattle.room_journal.specs.Coming.{replayer}
use Rattle.room_journal.proofs.Made.{made_create}
use Rattle.room_journal.proofs.room_book.RoomBook.make_match.Goals as goal

pub returns-clause-does : goal.returns-clause-does
returns-clause-does c h stands fits = made_create c.args.self.now.room h replayer c.args.game c.args.seats c.args.seed _ _ _ c.call-made.result fits c.in-Ok.ensures (c.call-made.ensures.calls h stands)
