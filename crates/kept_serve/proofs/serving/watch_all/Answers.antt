use Rattle.std.proofs.Common.{◌∙◌, arith}
use Rattle.std.proofs.lemmas.Result.{IfOk-weaker}
use Rattle.any_game.specs.AnyRules.{any_rules}
use Rattle.hosted_room.specs.Calls.{NobodyIn}
use Rattle.kept_room.specs.Hosting.{StandsFrom}
use Rattle.kept_room.specs.Journal.{Calls}
use Rattle.room_keeper.proofs.Within.{all_within, as_many_within, map_within}
use Rattle.kept_serve.proofs.serving.watch_all.Goals as goal

pub returns-clause-many : goal.returns-clause-many
returns-clause-many g c =
    IfOk-weaker c.watch_rooms.result _ _
    (λ r same. let n = as_many_within (λ w. w.room) r.0.items c.in_ok-hosted.hosted.items same in omega (arith, n, r.0.ok, c.in_ok-hosted.hosted.ok, c.in_ok-hosted.ensures.many))
    c.watch_rooms.ensures

pub returns-clause-numbered : goal.returns-clause-numbered
returns-clause-numbered g c =
    IfOk-weaker c.watch_rooms.result _ _
    (λ r same. map_within (λ w. w.room) (λ b. b.room.object.room) r.0.items c.in_ok-hosted.hosted.items same ∙ c.in_ok-hosted.ensures.numbered)
    c.watch_rooms.ensures

pub returns-clause-stand : goal.returns-clause-stand
returns-clause-stand g c =
    let d = g.D.Disk in
    IfOk-weaker c.watch_rooms.result _ _
    (λ r same. all_within (λ w. w.room)
    (λ b. (past : Calls) × StandsFrom d.is_told d.seen d.may_leave d.moment d.left_since d.faults b.room.object.room (g.O.Origin.start b.room.object.room) b.room past)
    r.0.items c.in_ok-hosted.hosted.items same c.in_ok-hosted.ensures.stand)
    c.watch_rooms.ensures

pub returns-clause-nobody : goal.returns-clause-nobody
returns-clause-nobody g c =
    let d = g.D.Disk in
    IfOk-weaker c.watch_rooms.result _ _
    (λ r same. all_within (λ w. w.room)
    (λ b. (past : Calls) → StandsFrom d.is_told d.seen d.may_leave d.moment d.left_since d.faults b.room.object.room (g.O.Origin.start b.room.object.room) b.room past
    → NobodyIn any_rules c.args.passes b.room.object.room past)
    r.0.items c.in_ok-hosted.hosted.items same c.in_ok-hosted.ensures.nobody)
    c.watch_rooms.ensures
