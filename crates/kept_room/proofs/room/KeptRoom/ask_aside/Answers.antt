use Rattle.std.proofs.Common.{refl}
use Rattle.match_master.specs.Held.{is_starved}
use Rattle.kept_room.proofs.Asides.{since_aside}
use Rattle.kept_room.proofs.room.KeptRoom.ask_aside.Goals as goal

pub returns-clause-since : goal.returns-clause-since
returns-clause-since g c =
    let d = g.D.Disk in
    since_aside d.is_told d.seen d.may_leave d.moment d.left_since d.faults g.met.D.Disk.only_now c.args.self.now _ c.args.pass c.args.call (is_starved c.apply.result) c.requires.aside refl refl
    c.apply.ensures.number c.apply.ensures.stands
