use Rattle.std.proofs.Common.{refl}
use Rattle.room_history.specs.declared.call.RoomCall.TheVariants as call
use Rattle.session_driver.proofs.Along.{frees_by}
use Rattle.session_driver.specs.Hearing.{side}
use Rattle.kept_script.specs.OneRoom.{books_of, calls_book}
use Rattle.kept_script.proofs.Runs.{over_one, same_freed, since_frees}
use Rattle.kept_script.proofs.visiting.detach_there.Goals as goal

pub returns-clause-detaches : goal.returns-clause-detaches
returns-clause-detaches g c =
    let d = g.D.Disk in
    frees_by (over_one d.is_told d.seen d.may_leave d.moment d.left_since d.faults) calls_book (λ e. books_of e.room.now) (λ s p made t called. called.0.0) call.Detach
    (side c.args.rooms.now c.args.core.now) c.detach.result (side c.detach.new.rooms c.detach.new.core) c.detach.ensures.detaches

pub returns-clause-same : goal.returns-clause-same
returns-clause-same g c =
    let d = g.D.Disk in
    same_freed d.is_told d.seen d.may_leave d.moment d.left_since d.faults call.Detach (side c.args.rooms.now c.args.core.now) c.detach.result (side c.detach.new.rooms c.detach.new.core) c.detach.ensures.detaches

pub returns-clause-since : goal.returns-clause-since
returns-clause-since g c =
    let d = g.D.Disk in
    since_frees d.is_told d.seen d.may_leave d.moment d.left_since d.faults g.met.D.Disk.only_now call.Detach refl (side c.args.rooms.now c.args.core.now) c.detach.result (side c.detach.new.rooms c.detach.new.core) c.detach.ensures.detaches
