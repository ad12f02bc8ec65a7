use Rattle.object_journal.proofs.Opens.{opens_any, opens_told}
use Rattle.object_journal.proofs.opening.open.Goals as goal

pub returns-in-Ok-scanned-clause-opened : goal.returns-in-Ok-scanned-clause-opened
returns-in-Ok-scanned-clause-opened g c known =
    let d = g.D.Disk in
    let n = g.O.Object.number c.args.object in
    opens_told g.O.Object.stands_for g.O.Replays.has_come (g.O.Recorded.records n) (g.O.Replays.may_follow n) d.is_told d.seen d.may_leave c.args.disk c.ready.new.disk c.replay_all-scanned.new.object c.deref.result.now c.in-Ok.bytes.items
    c.in-Ok-scanned.end c.deref.ensures.value c.ready.ensures.told c.in-Ok.ensures.bytes known c.in-Ok-scanned.ensures.done

pub returns-in-Ok-scanned-clause-stands : goal.returns-in-Ok-scanned-clause-stands
returns-in-Ok-scanned-clause-stands g c =
    let d = g.D.Disk in
    let n = g.O.Object.number c.args.object in
    opens_any g.O.Object.stands_for g.O.Replays.has_come (g.O.Recorded.records n) (g.O.Replays.may_follow n) d.is_told d.seen d.may_leave c.args.disk c.ready.new.disk c.replay_all-scanned.new.object c.deref.result.now c.in-Ok.bytes.items
    c.in-Ok-scanned.end c.deref.ensures.value c.ready.ensures.told c.in-Ok.ensures.bytes c.in-Ok-scanned.ensures.done
