use Rattle.std.proofs.Common.{refl}
use Rattle.match_master.specs.Held.{is_starved}
use Rattle.room_history.specs.declared.call.RoomCall.TheVariants.{Create}
use Rattle.room_object.specs.Entry.{entry}
use Rattle.kept_room.proofs.Creating.{create_adds}
use Rattle.kept_room.proofs.Journals.{since_performed, since_unkept}
use Rattle.kept_room.proofs.room.KeptRoom.create.Goals as goal

pub perform_with-reply-requires-clause-adds : goal.perform_with-reply-requires-clause-adds
perform_with-reply-requires-clause-adds g c = λ h s.
    create_adds c.args.self.now.object.room h c.args.pass c.args.game c.args.seats c.args.seed c.in-Ok.frame c.in-Ok.ensures

pub returns-in-Ok-clause-since : goal.returns-in-Ok-clause-since
returns-in-Ok-clause-since g c =
    let d = g.D.Disk in
    since_performed d.is_told d.seen d.may_leave d.moment d.left_since d.faults c.args.self.now _ c.args.pass (Create c.args.game c.args.seats c.args.seed) (is_starved c.perform_with-reply.result.0)
    c.requires.whole c.perform_with-reply.ensures.number c.perform_with-reply.ensures.stands c.perform_with-reply.ensures.kept c.perform_with-reply.ensures.cause c.perform_with-reply.ensures.full c.perform_with-reply.ensures.fits
    c.perform_with-reply.ensures.crash

pub returns-in-Err-clause-since : goal.returns-in-Err-clause-since
returns-in-Err-clause-since g c =
    let d = g.D.Disk in
    since_unkept d.is_told d.seen d.may_leave d.moment d.left_since d.faults g.met.D.Disk.only_now c.args.self.now _ (entry c.args.pass (Create c.args.game c.args.seats c.args.seed) (is_starved c.apply-reply.result))
    c.requires.whole refl refl c.apply-reply.ensures.number c.apply-reply.ensures.stands
