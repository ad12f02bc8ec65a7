use Rattle.match_master.specs.Held.{is_starved}
use Rattle.kept_room.proofs.Journals.{since_performed}
use Rattle.kept_room.proofs.room.KeptRoom.ask_named.Goals as goal

pub returns-clause-since : goal.returns-clause-since
returns-clause-since g c =
    let d = g.D.Disk in
    since_performed d.is_told d.seen d.may_leave d.moment d.left_since d.faults c.args.self.now _ c.args.pass c.args.call (is_starved c.perform-reply.result.0)
    c.requires.whole c.perform-reply.ensures.number c.perform-reply.ensures.stands c.perform-reply.ensures.kept c.perform-reply.ensures.cause c.perform-reply.ensures.full c.perform-reply.ensures.fits
    c.perform-reply.ensures.crash
