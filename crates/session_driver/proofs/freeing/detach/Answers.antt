use Rattle.std.proofs.Common.{◌∙◌, sym}
use Rattle.room_history.specs.declared.call.RoomCall.TheVariants as call
use Rattle.session_driver.proofs.Freed.{freed_goes, freed_stays, one_freed}
use Rattle.session_driver.specs.Hearing.{side}
use Rattle.session_driver.proofs.freeing.detach.Goals as goal

pub returns-then-stays_after_detach-clause-detaches : goal.returns-then-stays_after_detach-clause-detaches
returns-then-stays_after_detach-clause-detaches g c =
    let core = c.args.core.now in
    one_freed g.M.Rooms.calls call.Detach (side c.args.rooms.now core) c.in_ok-room.room c.call-reply.result c.call-reply.new.self core c.in_ok-room.ensures.room
    c.pass.result c.pass.ensures c.call-reply.ensures.calls (freed_stays call.Detach c.call-reply.result core (sym c.stays_after_detach.ensures ∙ c.if-stays_after_detach.true))

pub returns-clause-detaches : goal.returns-clause-detaches
returns-clause-detaches g c =
    let core = c.args.core.now in
    one_freed g.M.Rooms.calls call.Detach (side c.args.rooms.now core) c.in_ok-room.room c.call-reply.result c.call-reply.new.self c.released.new.self c.in_ok-room.ensures.room
    c.pass.result c.pass.ensures c.call-reply.ensures.calls
    (freed_goes call.Detach c.call-reply.result core c.released.new.self (sym c.stays_after_detach.ensures ∙ c.if-stays_after_detach.false) c.released.ensures)
