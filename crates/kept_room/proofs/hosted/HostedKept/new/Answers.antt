use Rattle.kept_room.proofs.Hosting.{nobody_from, opens_from}
use Rattle.kept_room.proofs.hosted.HostedKept.new.Goals as goal

pub returns-clause-stands : goal.returns-clause-stands
returns-clause-stands g c = λ passes past o.
    let d = g.D.Disk in
    let room = c.args.room.object.room in
    opens_from d.is_told d.seen d.may_leave d.moment d.left_since d.faults room passes past (g.K.Origin.start room) c.args.room o

pub returns-clause-nobody : goal.returns-clause-nobody
returns-clause-nobody g c = λ passes past h o s.
    let d = g.D.Disk in
    nobody_from d.is_told d.seen d.may_leave d.moment d.left_since d.faults passes past h (g.K.Origin.start c.args.room.object.room) c.args.room o s
