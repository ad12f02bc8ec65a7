use Rattle.std.specs.Prelude.{option_map, vec_len}
use Rattle.std.proofs.Common.{◌+◌}
use Rattle.door_serve.specs.Rooms.{hosted}
use Rattle.board_commands.proofs.Seated.{serves_none}
use Rattle.board_commands.proofs.seating.serve_seated.Goals as goal

pub returns-in_default-readies_for-clause-serves : goal.returns-in_default-readies_for-clause-serves
returns-in_default-readies_for-clause-serves g c =
    let known = hosted g.B.Object.number g.B.Object.stands_for g.B.HostedRoom.has_stopped in
    serves_none known (vec_len c.args.rooms) c.args.sessions c.args.seats (g.D.Door.faults c.args.door) (option_map (λ n. n + c.args.seats) (g.D.Door.left c.args.door))
    (g.D.Door.shut c.args.door) (g.D.Door.given c.args.door) (g.K.Sink.faults c.args.sink.now) (g.K.Sink.held c.args.sink.now)
    c.new-in_default-readies_for.result.items c.requires.fresh.0 c.new-in_default-readies_for.ensures.items
