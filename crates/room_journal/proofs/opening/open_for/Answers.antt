use Rattle.room_journal.proofs.Opened.{opened_on, stands_open}
use Rattle.room_journal.proofs.opening.open_for.Goals as goal

pub returns-in-Ok-clause-opened : goal.returns-in-Ok-clause-opened
returns-in-Ok-clause-opened g c told =
    let d = g.D.Disk in
    opened_on c.args.book.room c.in-Ok.kept.object c.release.new.self c.release.ensures.room c.release.ensures.same c.release.ensures.stays d.is_told d.seen d.may_leave c.args.disk c.in-Ok.kept.file.disk c.in-Ok.kept.file.end c.in-Ok.kept.broken
    c.in-Ok.ensures.number (c.in-Ok.ensures.opened told)

pub returns-in-Ok-clause-stands : goal.returns-in-Ok-clause-stands
returns-in-Ok-clause-stands g c =
    let d = g.D.Disk in
    stands_open c.args.book.room c.in-Ok.kept.object c.release.new.self c.release.ensures.room c.release.ensures.same c.release.ensures.stays d.is_told d.seen d.may_leave c.args.disk c.in-Ok.kept.file.disk c.in-Ok.kept.file.end c.in-Ok.kept.broken
    c.in-Ok.ensures.number c.in-Ok.ensures.stands
