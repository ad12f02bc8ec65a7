use Rattle.wire_json.proofs.ServerTelling.{place_told, on_ok_two, a_byte}
use Rattle.wire_json.proofs.server_write.place.Goals as goal

pub returns-clause-told : goal.returns-clause-told
returns-clause-told c =
    on_ok_two c.put_place.result c.put_place.ensures.named c.put_place.ensures.utf8
    (λ named utf8. place_told c.args.name.now c.args.seat c.args.kind.now named (a_byte c.args.seat c.ranges.seat.fits) utf8)
