use Rattle.std.proofs.Common.{arith}
use Rattle.std.specs.Prelude.{vec_len}
use Rattle.door_serve.proofs.Booking.{numbered}
use Rattle.kept_serve.proofs.Closing.{leaves}
use Rattle.kept_serve.proofs.serving.serve_hosted.Goals as goal

pub returns-in-Ok-watch_all-clause-kept : goal.returns-in-Ok-watch_all-clause-kept
returns-in-Ok-watch_all-clause-kept g c =
    let d = g.D.Disk in
    let rooms = c.in-Ok-watch_all.hosted in
    leaves d.is_told d.seen d.may_leave d.moment d.left_since d.faults (λ b. b.room.room) g.O.Origin.start _ _ _ (vec_len c.args.rooms) c.serve_rooms-end.result.0 rooms.items c.serve_rooms-end.result.2.items c.close_all-closed.result.items
    c.in-Ok-watch_all.ensures.many (omega (arith, rooms.ok)) (numbered (λ b. b.room.room.object.room) rooms.items 0 (vec_len c.args.rooms) c.in-Ok-watch_all.ensures.numbered) c.close_all-closed.ensures c.serve_rooms-end.ensures.closed
