use Rattle.std.proofs.Common.{subst, sym}
use Rattle.std.specs.Prelude.{IsSome, vec_len}
use Rattle.board_links.specs.Pieces.{told_bytes}
use Rattle.door_serve.specs.Ends.{Reports}
use Rattle.door_serve.specs.Rooms.{hosted}
use Rattle.board_commands.specs.Serving.{Serves}
use Rattle.session_pool.specs.Sittings.{AreServed}
use Rattle.board_commands.proofs.Seated.{served_in, serves_plain}
use Rattle.board_commands.proofs.serving.serve_asked.Goals as goal

pub returns-in-None-clause-serves : goal.returns-in-None-clause-serves
returns-in-None-clause-serves g c =
    let known = hosted g.B.Object.number g.B.Object.stands_for g.B.HostedRoom.has_stopped in
    let held = g.K.Sink.held c.args.sink.now in
    let rooms = c.serve_rooms-end in
    let after = g.K.Sink.held rooms.new.sink in
    let reports : IsSome held → Reports known c.args.asked.rooms (g.D.Door.given rooms.result.1) rooms.result.2.items rooms.result.0 (told_bytes held) after =
    λ tells. subst (λ n. Reports known n (g.D.Door.given rooms.result.1) rooms.result.2.items rooms.result.0 (told_bytes held) after) c.requires.many (rooms.ensures.reports tells) in
    subst (λ x. Serves known c.args.asked x rooms.result.2.items (g.D.Door.faults c.args.door) (g.D.Door.left c.args.door) (g.D.Door.shut rooms.result.1)
    (g.D.Door.faults rooms.result.1) (g.D.Door.given rooms.result.1) (g.K.Sink.faults c.args.sink.now) (g.K.Sink.faults rooms.new.sink) held after)
    (sym c.exit_of.ensures)
    (serves_plain known c.args.asked rooms.result.0 rooms.result.2.items (g.D.Door.faults c.args.door) (g.D.Door.left c.args.door) (g.D.Door.shut rooms.result.1)
    (g.D.Door.faults rooms.result.1) (g.D.Door.given rooms.result.1) (g.K.Sink.faults c.args.sink.now) (g.K.Sink.faults rooms.new.sink)
    held after c.in-None.is rooms.ensures.ended reports)

pub returns-in-None-clause-served : goal.returns-in-None-clause-served
returns-in-None-clause-served g c none =
    let rooms = c.serve_rooms-end in
    served_in (hosted g.B.Object.number g.B.Object.stands_for g.B.HostedRoom.has_stopped) (λ pasts knows. AreServed g.B.Object.may_starve c.args.seed c.args.asked.links pasts knows (g.D.Door.returned rooms.result.1))
    (vec_len c.args.rooms) rooms.result.0 c.args.rooms.items rooms.result.2.items rooms.ensures.closed rooms.ensures.served
