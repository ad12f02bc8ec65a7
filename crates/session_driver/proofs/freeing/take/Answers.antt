use Rattle.std.proofs.Common.{◌∙◌, sym}
use Rattle.room_history.specs.declared.call.RoomCall.TheVariants as call
use Rattle.session_driver.proofs.Freed.{freed_goes, freed_stays, one_freed}
use Rattle.session_driver.specs.Hearing.{side}
use Rattle.session_driver.proofs.freeing.take.Goals as goal

pub returns-then-stays_after_take-clause-takes : goal.returns-then-stays_after_take-clause-takes
returns-then-stays_after_take-clause-takes g c =
    let core = c.args.core.now in
    one_freed g.M.Rooms.calls call.Take (side c.args.rooms.now core) c.in_ok-room.room c.call-reply.result c.call-reply.new.self core c.in_ok-room.ensures.room
    c.pass.result c.pass.ensures c.call-reply.ensures.calls (freed_stays call.Take c.call-reply.result core (sym c.stays_after_take.ensures ∙ c.if-stays_after_take.true))

pub returns-clause-takes : goal.returns-clause-takes
returns-clause-takes g c =
    let core = c.args.core.now in
    one_freed g.M.Rooms.calls call.Take (side c.args.rooms.now core) c.in_ok-room.room c.call-reply.result c.call-reply.new.self c.released.new.self c.in_ok-room.ensures.room
    c.pass.result c.pass.ensures c.call-reply.ensures.calls
    (freed_goes call.Take c.call-reply.result core c.released.new.self (sym c.stays_after_take.ensures ∙ c.if-stays_after_take.false) c.released.ensures)
