use Rattle.std.proofs.Common.{◌<◌, ◌+◌, slice_index_or, subst, subst₂}
use Rattle.std.specs.Prelude.{vec_len}
use Rattle.board_links.specs.Pieces.{told_bytes}
use Rattle.session_pool.proofs.Places.{none_served}
use Rattle.session_pool.proofs.Seeing.{some_stand}
use Rattle.session_pool.specs.Sittings.{AreServed}
use Rattle.session_pool.specs.Watched.{StandsIn, seen_of}
use Rattle.door_serve.proofs.Watching.{all_alike, given_back}
use Rattle.door_serve.specs.Ends.{AreBack, Reports}
use Rattle.door_serve.specs.Rooms.{hosted}
use Rattle.door_serve.proofs.serving.serve_with.Goals as goal

pub returns-in-Err-clause-served : goal.returns-in-Err-clause-served
returns-in-Err-clause-served g c =
    let stood = some_stand g.B.Object.stands_for c.args.rooms.items c.requires.stand in
    (stood.0, stood.1, none_served g.B.Object.may_starve c.args.seed c.args.places stood.0 (λ s. Unit {0}) (g.D.Door.returned c.args.door) c.requires.none_back)

pub returns-in_default-clause-served : goal.returns-in_default-clause-served
returns-in_default-clause-served g c =
    let stood = some_stand g.B.Object.stands_for c.args.rooms.items c.requires.stand in
    (stood.0, stood.1, none_served g.B.Object.may_starve c.args.seed c.args.places stood.0 (λ s. Unit {0}) (g.D.Door.returned c.args.door) c.requires.none_back)

pub set_up_rooms-requires-clause-nobody : goal.set_up_rooms-requires-clause-nobody
set_up_rooms-requires-clause-nobody g c k d low past stands pass below = c.requires.nobody k d low past stands pass (subst (λ n. pass < n + 2) c.from.ensures below)

pub returns-in-Ok-set_up_rooms-clause-reports : goal.returns-in-Ok-set_up_rooms-clause-reports
returns-in-Ok-set_up_rooms-clause-reports g c tells =
    subst (λ n. Reports (hosted g.B.Object.number g.B.Object.stands_for g.B.HostedRoom.has_stopped) n (g.D.Door.given c.serve_table.result.1) c.serve_table.result.2.items c.serve_table.result.0
    (told_bytes (g.K.Sink.held c.args.sink.now)) (g.K.Sink.held c.serve_table.new.sink)) c.requires.spare.0 (c.serve_table.ensures.reports tells)

pub serve_table-requires-clause-began : goal.serve_table-requires-clause-began
serve_table-requires-clause-began g c κs inside k d low =
    let stood = c.in-Ok-set_up_rooms.ensures.seen in
    let seen = c.split_own-rows.ensures.seen stood.0 stood.2 in
    all_alike (seen_of (slice_index_or c.split_own-rows.result.0.items k d).items) (seen_of c.split_own-rows.result.2.items) stood.0 (seen.0 k d low) seen.1

pub returns-in-Ok-set_up_rooms-clause-served : goal.returns-in-Ok-set_up_rooms-clause-served
returns-in-Ok-set_up_rooms-clause-served g c =
    let stood = c.in-Ok-set_up_rooms.ensures.seen in
    let seen = c.split_own-rows.ensures.seen stood.0 stood.2 in
    let told = g.D.Door.returned c.serve_table.result.1 in (
      stood.0,
      stood.1,
      subst₂ (λ n pasts. AreServed g.B.Object.may_starve c.args.seed n pasts (λ s. Unit {0}) told) c.requires.spare.1 seen.1 c.serve_table.ensures.served,
    )

pub returns-in-Ok-set_up_rooms-clause-closed : goal.returns-in-Ok-set_up_rooms-clause-closed
returns-in-Ok-set_up_rooms-clause-closed g c =
    let known = hosted g.B.Object.number g.B.Object.stands_for g.B.HostedRoom.has_stopped in
    let stood = c.in-Ok-set_up_rooms.ensures.seen in
    let watch = seen_of c.split_own-rows.result.2.items in
    let seen = c.split_own-rows.ensures.seen stood.0 stood.2 in
    let told = g.D.Door.returned c.serve_table.result.1 in
    given_back known c.args.rooms.items c.serve_table.result.2.items (vec_len c.args.rooms) c.serve_table.result.0 watch stood.0
    (λ pasts histories. AreServed g.B.Object.may_starve c.args.seed c.args.places pasts (StandsIn histories) told) stood.1 seen.1
    (subst₂ (λ n places. AreBack known n c.serve_table.result.0 c.serve_table.result.2.items (λ histories. AreServed g.B.Object.may_starve c.args.seed places watch (StandsIn histories) told))
    c.requires.spare.0 c.requires.spare.1 c.serve_table.ensures.closed)
