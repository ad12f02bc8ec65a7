use Rattle.kept_room.proofs.Opened.{opened_so}
use Rattle.kept_room.proofs.opening.open_room.Goals as goal

pub returns-in-Ok-open_book-clause-opened : goal.returns-in-Ok-open_book-clause-opened
returns-in-Ok-open_book-clause-opened g c =
    let d = g.D.Disk in
    let k = c.in-Ok-open_book.kept in
    opened_so d.is_told d.seen d.may_leave d.moment d.left_since d.faults c.args.room c.args.disk k.object k.file.disk k.file.end k.broken c.taken.result c.taken.ensures.object c.taken.ensures.disk c.taken.ensures.end
    c.taken.ensures.whole c.in-Ok-open_book.ensures.room c.in-Ok-open_book.ensures.never_falls c.in-Ok-open_book.ensures.crash c.in-Ok-open_book.ensures.stands

pub returns-in-Ok-open_book-clause-keeps : goal.returns-in-Ok-open_book-clause-keeps
returns-in-Ok-open_book-clause-keeps g c known =
    let d = g.D.Disk in
    let k = c.in-Ok-open_book.kept in
    let o =
    opened_so d.is_told d.seen d.may_leave d.moment d.left_since d.faults c.args.room c.args.disk k.object k.file.disk k.file.end k.broken c.taken.result c.taken.ensures.object c.taken.ensures.disk c.taken.ensures.end
    c.taken.ensures.whole c.in-Ok-open_book.ensures.room c.in-Ok-open_book.ensures.never_falls c.in-Ok-open_book.ensures.crash c.in-Ok-open_book.ensures.stands in
    (o.0, o.2 known)
