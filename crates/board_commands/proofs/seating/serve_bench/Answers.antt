use Rattle.std.proofs.Common.{◌≡◌, ◌+◌, ◌-◌, ◌∙◌, ap, sym}
use Rattle.std.specs.Prelude.{option_map, vec_len}
use Rattle.board_links.specs.Pieces.{told_bytes}
use Rattle.door_serve.specs.Rooms.{hosted}
use Rattle.board_commands.proofs.Seated.{ends_same, gave_bots, reports_same}
use Rattle.board_commands.proofs.seating.serve_bench.Goals as goal

pub returns-clause-serves : goal.returns-clause-serves
returns-clause-serves g c =
    let known = hosted g.B.Object.number g.B.Object.stands_for g.B.HostedRoom.has_stopped in
    let d = c.serve_rooms-end.result.1 in
    let rooms = c.serve_rooms-end in
    let given = ap g.D.Door.given c.into_door.ensures in
    let bots = d.start - vec_len d.links in
    let many : d.start - vec_len d.links + g.D.Door.given d.door ≡ bots + g.D.Door.given c.into_door.result = ap (λ n. bots + n) (sym given) in
    record {
      bots = bots;
      gave = gave_bots (vec_len d.links) d.start c.args.seats (g.D.Door.given c.into_door.result) (d.began ∙ c.requires.named) (λ some. given ∙ d.first some);
      ended = ends_same rooms.result.0 c.args.sessions _ (g.D.Door.faults c.args.door) _ (option_map (λ n. n + c.args.seats) (g.D.Door.left c.args.door)) _ (g.D.Door.shut c.into_door.result) _ (g.D.Door.faults c.into_door.result) _ _ _ _
          (ap g.D.Door.faults c.new-bench.ensures.door) (c.new-bench.ensures.left ∙ ap (λ k. option_map (λ n. n + k) (g.D.Door.left c.args.door)) c.requires.links)
          (ap g.D.Door.shut (sym c.into_door.ensures)) (ap g.D.Door.faults (sym c.into_door.ensures)) many rooms.ensures.ended;
      reports = λ tells. reports_same known (vec_len c.args.rooms) _ _ rooms.result.2.items rooms.result.0 (told_bytes (g.K.Sink.held c.args.sink.now)) _ many (rooms.ensures.reports tells);
    }
