use Rattle.std.proofs.Common.{◌≡◌, true, arith}
use Rattle.room_changes.specs.declared.change.Change.TheVariants as change
use Rattle.room_journal.proofs.Acting.{taken_keys}
use Rattle.room_journal.proofs.room_book.RoomBook.act.Goals as goal

pub returns-clause-does : goal.returns-clause-does
returns-clause-does c h stands fits =
    let fed : c.call_anyway.result ≡ true = grind (arith, c.if-not-call_anyway.false) in
    taken_keys c.args.self.now.room h c.pass_of-pass.result (change.Act c.args.seat c.args.asked) c.submit_by-made.new.self.book c.call_anyway.new.self.book c.submit_by-made.new.self.keys.items c.call_anyway.new.self.keys.items c.submit_by-made.result
    (c.submit_by-made.ensures.does h stands fits) c.call_anyway.ensures.keys (λ before now. c.call_anyway.ensures.stands before now fed)
