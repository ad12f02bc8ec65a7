use Rattle.std.proofs.Common.{ap, arith, ◌≡◌, ◌+◌}
use Rattle.std.specs.Prelude.{vec_len}
use Rattle.door_serve.proofs.Booking.{numbered}
use Rattle.kept_serve.specs.Opened.{room_of, starts_at}
use Rattle.kept_serve.proofs.Hosting.{starts_all}
use Rattle.kept_serve.proofs.serving.serve_opened.Goals as goal

pub serve_hosted-requires-clause-starts : goal.serve_hosted-requires-clause-starts
serve_hosted-requires-clause-starts g c κs inside =
    let rooms = c.args.rooms.items in
    starts_all (starts_at rooms) rooms 0 (numbered room_of rooms 0 (vec_len c.args.rooms) c.requires.opened.numbered) (λ i. let e : 0 + i ≡ i = omega arith in ap (starts_at rooms) e)
