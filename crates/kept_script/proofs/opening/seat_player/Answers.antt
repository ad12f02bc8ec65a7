use Rattle.std.proofs.Common.{[], ◌∷◌}
use Rattle.std.proofs.lemmas.Result.{on_ok_weaker}
use Rattle.hall_history.specs.Opening.{own_pass}
use Rattle.match_master.specs.Held.{is_starved}
use Rattle.room_object.specs.Entry.{entry}
use Rattle.kept_room.proofs.Journals.{since_none}
use Rattle.kept_script.proofs.Trying.{joined_one, same_room, seated_unless}
use Rattle.kept_script.proofs.opening.seat_player.Goals as goal

pub returns-in-Ok-clause-seated : goal.returns-in-Ok-clause-seated
returns-in-Ok-clause-seated g c = λ h s.
    let d = g.D.Disk in
    seated_unless d.is_told d.seen d.may_leave d.moment d.left_since d.faults c.args.room.now c.ask-reply.new.self c.requires.serves.0 c.requires.serves.1 c.served-served.result c.args.serial c.args.seat c.in-Ok.call
    c.in-Ok.ensures c.ask-reply.result c.served-served.ensures c.ask-reply.ensures.since h s

pub returns-in-Ok-clause-same : goal.returns-in-Ok-clause-same
returns-in-Ok-clause-same g c =
    let d = g.D.Disk in
    same_room d.is_told d.seen d.may_leave d.moment d.left_since d.faults c.args.room.now c.ask-reply.new.self (entry own_pass c.in-Ok.call (is_starved c.ask-reply.result) ∷ [])
    c.requires.serves.0 c.requires.serves.1 c.ask-reply.ensures.since

pub returns-in-Ok-clause-since : goal.returns-in-Ok-clause-since
returns-in-Ok-clause-since g c = (
  entry own_pass c.in-Ok.call (is_starved c.ask-reply.result) ∷ [],
  c.ask-reply.ensures.since,
  on_ok_weaker c.served-served.result (joined_one c.args.serial c.args.seat c.in-Ok.call c.ask-reply.result c.in-Ok.ensures) c.served-served.ensures,
)

pub returns-in-Err-clause-since : goal.returns-in-Err-clause-since
returns-in-Err-clause-since g c =
    let d = g.D.Disk in
    ([], since_none d.is_told d.seen d.may_leave d.moment d.left_since d.faults g.met.D.Disk.only_now c.args.room.now, tt)
