use Rattle.std.proofs.Common.{◌≡◌, ◌∙◌, [], ap, arith, map}
use Rattle.std.proofs.lemmas.Result.{IfOk-weaker}
use Rattle.std.specs.Prelude.{vec_len}
use Rattle.any_game.specs.AnyRules.{any_rules}
use Rattle.door_serve.specs.Rooms.{Calls}
use Rattle.hosted_room.specs.Calls.{NobodyIn}
use Rattle.match_master.specs.Held.{StandsFor}
use Rattle.room_keeper.proofs.Within.{all_within, as_many_within, map_within}
use Rattle.session_pool.specs.Rooms.{numbers}
use Rattle.board_commands.proofs.serving.watched_rooms.Goals as goal

pub returns-clause-count : goal.returns-clause-count
returns-clause-count g c =
    IfOk-weaker c.watch_rooms.result _ _
    (λ r same. let n = as_many_within (λ w. w.room) r.0.items c.in_ok-rooms.rooms.items same in omega (arith, n, r.0.ok, c.in_ok-rooms.rooms.ok, c.in_ok-rooms.ensures.count))
    c.watch_rooms.ensures

pub returns-clause-numbered : goal.returns-clause-numbered
returns-clause-numbered g c =
    IfOk-weaker c.watch_rooms.result _ _
    (λ r same.
    let counted = as_many_within (λ w. w.room) r.0.items c.in_ok-rooms.rooms.items same in
    let many : vec_len c.in_ok-rooms.rooms ≡ vec_len r.0 = omega (arith, counted, r.0.ok, c.in_ok-rooms.rooms.ok) in
    map_within (λ w. w.room) (λ b. b.room) r.0.items c.in_ok-rooms.rooms.items same ∙ (c.in_ok-rooms.ensures.numbered ∙ ap (numbers 0) many))
    c.watch_rooms.ensures

pub returns-clause-stand : goal.returns-clause-stand
returns-clause-stand g c =
    IfOk-weaker c.watch_rooms.result _ _
    (λ r same. all_within (λ w. w.room) (λ b. (past : Calls) × StandsFor any_rules b past) r.0.items c.in_ok-rooms.rooms.items same c.in_ok-rooms.ensures.stand)
    c.watch_rooms.ensures

pub returns-clause-nobody : goal.returns-clause-nobody
returns-clause-nobody g c places =
    IfOk-weaker c.watch_rooms.result _ _
    (λ r same. all_within (λ w. w.room) (λ b. (past : Calls) → StandsFor any_rules b past → NobodyIn any_rules places b.room past) r.0.items c.in_ok-rooms.rooms.items same (c.in_ok-rooms.ensures.nobody places))
    c.watch_rooms.ensures

pub returns-clause-fresh : goal.returns-clause-fresh
returns-clause-fresh g c =
    IfOk-weaker c.watch_rooms.result _ _
    (λ r same. all_within (λ w. w.room) (λ b. StandsFor any_rules b []) r.0.items c.in_ok-rooms.rooms.items same c.in_ok-rooms.ensures.fresh)
    c.watch_rooms.ensures
