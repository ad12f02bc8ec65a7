use Rattle.std.proofs.Common.{◌≡◌, ◌∷◌, true, false, arith}
use Rattle.room_history.specs.declared.call.RoomCall.TheVariants as call_of
use Rattle.room_object.specs.Entry.{entry}
use Rattle.room_journal.proofs.room_book.RoomBook.attach.Goals as goal

pub returns-clause-attaches : goal.returns-clause-attaches
returns-clause-attaches c h stands t =
    let released : c.call_anyway.result ≡ true = grind (arith, c.if-not-call_anyway.false) in
    c.call_anyway-2.ensures.stands (entry c.args.pass call_of.Detach false ∷ h) (c.call_anyway.ensures.stands h stands released) t
