use Rattle.std.proofs.Common.{◌≡◌, ◌+◌, ◌∙◌, ap, arith, inl, subst}
use Rattle.std.specs.Prelude.{vec_len}
use Rattle.kept_serve.proofs.Jobs.{as_many}
use Rattle.kept_serve.specs.Kept.{Leave}
use Rattle.kept_serve.specs.Opened.{AreOpened, room_of, starts_at}
use Rattle.kept_room.specs.Asides.{may_refuse}
use Rattle.session_pool.specs.Sittings.{AreServed}
use Rattle.session_pool.specs.Watched.{StandsIn}
use Rattle.board_commands.specs.Hosting.{exit_after}
use Rattle.board_commands.proofs.hosting.host_asked.Goals as goal

pub serve_opened-end-requires-clause-opened : goal.serve_opened-end-requires-clause-opened
serve_opened-end-requires-clause-opened g c κs inside =
    let d = g.S.D.Disk in
    let rooms = c.in-Ok.opened in
    let opened = c.in-Ok.ensures.opened in
    let counted = as_many room_of rooms.items c.args.asked.rooms opened.numbered in
    let many : c.args.asked.rooms ≡ vec_len rooms = omega (arith, counted, rooms.ok) in
    subst (λ passes. AreOpened d.is_told d.seen d.may_leave d.moment d.left_since d.faults (passes + 2) (vec_len rooms) rooms.items) c.from.ensures
    (subst (λ n. AreOpened d.is_told d.seen d.may_leave d.moment d.left_since d.faults (c.from.result + 2) n rooms.items) many opened)

pub serve_opened-end-requires-clause-rooms : goal.serve_opened-end-requires-clause-rooms
serve_opened-end-requires-clause-rooms g c κs inside =
    let rooms = c.in-Ok.opened in
    let counted = as_many room_of rooms.items c.args.asked.rooms c.in-Ok.ensures.opened.numbered in
    let some = c.requires.rooms.0 in
    let few = c.requires.rooms.1 in
    (omega (arith, counted, rooms.ok, some), omega (arith, counted, rooms.ok, few))

pub returns-in-Ok-clause-hosts : goal.returns-in-Ok-clause-hosts
returns-in-Ok-clause-hosts g c =
    let d = g.S.D.Disk in
    let rooms = c.in-Ok.opened in
    let counted = as_many room_of rooms.items c.args.asked.rooms c.in-Ok.ensures.opened.numbered in
    let served = c.serve_opened-end in
    inl (record {
      opened = rooms.items;
      many = counted;
      disks = c.in-Ok.ensures.given.0;
      gave = c.in-Ok.ensures.given.1;
      begin = c.in-Ok.ensures.given.2;
      how = served.result.0;
      exits = c.exit_after-exit.ensures ∙ ap (exit_after served.result.0) c.as_slice.ensures.value;
      ended = served.ensures.ended;
      leaves = subst (λ n. Leave d.is_told d.seen d.may_leave d.moment d.left_since d.faults (starts_at rooms.items) n
          (λ pasts histories. AreServed may_refuse c.args.seed c.args.asked.links pasts (StandsIn histories) (g.P.Door.returned served.result.1)) served.result.0 served.result.2.items) (omega (arith, rooms.ok)) served.ensures.kept;
    })
