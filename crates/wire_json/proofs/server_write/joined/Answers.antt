use Rattle.wire_json.proofs.ServerTelling.{joined_told, on_ok_of, a_byte}
use Rattle.wire_json.proofs.server_write.joined.Goals as goal

pub returns-clause-told : goal.returns-clause-told
returns-clause-told c =
    on_ok_of c.put_joined.result c.put_joined.ensures.named (λ named. joined_told c.args.key.now c.args.name.now c.args.seat named (a_byte c.args.seat c.ranges.seat.fits))
