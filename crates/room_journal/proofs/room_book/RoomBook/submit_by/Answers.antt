use Rattle.room_changes.specs.declared.change.Change.TheVariants as change
use Rattle.room_journal.proofs.Acting.{has_acted, tries_on}
use Rattle.room_journal.proofs.room_book.RoomBook.submit_by.Goals as goal

pub returns-in-Done-clause-does : goal.returns-in-Done-clause-does
returns-in-Done-clause-does c h stands fits =
    has_acted c.args.self.now.room h c.args.seat c.args.asked c.submit_at_once.new.self.book c.args.self.now.keys.items c.submit_at_once.new.self.keys.items c.submit_at_once.ensures.keys fits
    (c.in-Done.ensures.tries h stands)

pub returns-in-Refused-clause-does : goal.returns-in-Refused-clause-does
returns-in-Refused-clause-does c h stands fits =
    tries_on c.args.self.now.room c.submit_at_once.new.self.room c.submit_at_once.ensures.room h (change.Act c.args.seat c.args.asked) c.submit_at_once.new.self.book c.submit.new.self.book c.args.self.now.keys.items
    c.submit_at_once.new.self.keys.items c.submit.new.self.keys.items c.submit.result c.submit_at_once.ensures.keys fits (c.in-Refused.ensures.tries h stands) c.submit.ensures.does
