use Rattle.match_master.specs.Held.{may_starve}
use Rattle.session_pool.proofs.Places.{none_served}
use Rattle.std.proofs.Common.{◌+◌, []}
use Rattle.session_pool.specs.Sittings.{AreServed}
use Rattle.board_commands.specs.Serving.{gauged}
use Rattle.board_commands.proofs.Seated.{of_ok, served_new, served_none, serves_starved}
use Rattle.board_commands.proofs.serving.serve_plain.Goals as goal

pub serve_asked-requires-clause-nobody : goal.serve_asked-requires-clause-nobody
serve_asked-requires-clause-nobody g c κs inside = of_ok _ c.watched_rooms.result (c.in-Ok.rooms, c.in-Ok.keeper) c.in-Ok.is (c.watched_rooms.ensures.nobody (c.args.asked.links + 2))

pub returns-in-Ok-clause-served : goal.returns-in-Ok-clause-served
returns-in-Ok-clause-served g c none =
    let back = c.serve_asked.result in
    served_new (λ pasts knows. AreServed may_starve c.args.seed c.args.asked.links pasts knows (g.D.Door.returned back.1)) c.in-Ok.rooms.items back.2.items
    (of_ok _ c.watched_rooms.result (c.in-Ok.rooms, c.in-Ok.keeper) c.in-Ok.is c.watched_rooms.ensures.fresh) (c.serve_asked.ensures.served none)

pub returns-in-Err-clause-served : goal.returns-in-Err-clause-served
returns-in-Err-clause-served g c none =
    let told = g.D.Door.returned c.args.door in
    served_none (λ pasts knows. AreServed may_starve c.args.seed c.args.asked.links pasts knows told) c.new.result.items c.new.ensures.items
    (none_served may_starve c.args.seed c.args.asked.links [] (λ s. Unit {0}) told c.requires.none_back)

pub returns-in-Err-clause-serves : goal.returns-in-Err-clause-serves
returns-in-Err-clause-serves g c =
    serves_starved gauged c.args.asked (g.D.Door.faults c.args.door) (g.D.Door.left c.args.door) (g.D.Door.shut c.args.door) (g.D.Door.given c.args.door)
    (g.K.Sink.faults c.args.sink.now) (g.K.Sink.held c.args.sink.now) c.new.result.items c.requires.fresh.0 c.new.ensures.items
