use Rattle.std.proofs.Common.{◌≡◌, arith, subst}
use Rattle.std.specs.Prelude.{vec_len}
use Rattle.kept_serve.proofs.Jobs.{as_many}
use Rattle.kept_serve.specs.Opened.{AreOpened, room_of}
use Rattle.test_server.proofs.keeps.hosted.Goals as goal

pub serve_opened-end-requires-clause-opened : goal.serve_opened-end-requires-clause-opened
serve_opened-end-requires-clause-opened g c κs inside =
    let d = g.S.D.Disk in
    let rooms = c.in-Ok.opened in
    let opened = c.in-Ok.ensures.opened in
    let counted = as_many room_of rooms.items 1 opened.numbered in
    let many : 1 ≡ vec_len rooms = omega (arith, counted, rooms.ok) in
    subst (λ n. AreOpened d.is_told d.seen d.may_leave d.moment d.left_since d.faults 3 n rooms.items) many opened

pub serve_opened-end-requires-clause-rooms : goal.serve_opened-end-requires-clause-rooms
serve_opened-end-requires-clause-rooms g c κs inside =
    let rooms = c.in-Ok.opened in
    let counted = as_many room_of rooms.items 1 c.in-Ok.ensures.opened.numbered in
    (omega (arith, counted, rooms.ok), omega (arith, counted, rooms.ok))
