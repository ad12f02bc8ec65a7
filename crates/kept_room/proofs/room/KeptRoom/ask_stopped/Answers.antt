use Rattle.std.proofs.Common.{refl}
use Rattle.match_master.specs.Held.{is_starved}
use Rattle.room_object.specs.Entry.{entry}
use Rattle.kept_room.proofs.Journals.{since_stopped}
use Rattle.kept_room.proofs.room.KeptRoom.ask_stopped.Goals as goal

pub returns-clause-since : goal.returns-clause-since
returns-clause-since g c =
    let d = g.D.Disk in
    since_stopped d.is_told d.seen d.may_leave d.moment d.left_since d.faults c.args.self.now _ (entry c.args.pass c.args.call (is_starved c.apply.result)) c.requires.stopped refl refl
    c.apply.ensures.number c.apply.ensures.stands
