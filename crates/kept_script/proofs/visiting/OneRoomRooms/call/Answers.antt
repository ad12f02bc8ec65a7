use Rattle.std.proofs.Common.{refl}
use Rattle.kept_script.proofs.OneCall.{is_named, one_call, stays_first}
use Rattle.kept_script.proofs.visiting.OneRoomRooms.call.Goals as goal

pub returns-clause-calls : goal.returns-clause-calls
returns-clause-calls g c =
    let d = g.D.Disk in (
      (
        one_call d.is_told d.seen d.may_leave d.moment d.left_since d.faults c.args.self.now.room.now c.ask.new.self c.args.pass c.args.call c.ask.result c.requires.serves c.ask.ensures.answered c.ask.ensures.since
            c.ask.ensures.fed c.args._room c.requires.there,
        c.ask.ensures.since,
      ),
      refl,
    )

pub returns-clause-serves : goal.returns-clause-serves
returns-clause-serves g c =
    let d = g.D.Disk in
    stays_first d.is_told d.seen d.may_leave d.moment d.left_since d.faults c.args.self.now.room.now c.ask.new.self c.args.pass c.args.call c.ask.result c.requires.serves c.ask.ensures.answered c.ask.ensures.since

pub returns-clause-named : goal.returns-clause-named
returns-clause-named g c =
    let d = g.D.Disk in
    is_named d.is_told d.seen d.may_leave d.moment d.left_since d.faults c.args.self.now.room.now c.ask.new.self c.args.pass c.args.call c.ask.result c.requires.serves c.ask.ensures.answered c.ask.ensures.since
