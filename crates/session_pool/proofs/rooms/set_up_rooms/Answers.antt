use Rattle.std.proofs.Common.{◌≡◌, ◌<◌, ◌∙◌, List, length, ap, arith, map, rules, subst, sym}
use Rattle.std.specs.Prelude.{All, None, vec_len}
use Rattle.std.proofs.lemmas.List.{length-map}
use Rattle.any_game.specs.AnyRules.{any_rules}
use Rattle.any_game.specs.GameKind.{GameKind}
use Rattle.hosted_room.specs.Calls.{NobodyIn}
use Rattle.room_history.specs.declared.call.RoomCall.{RoomCall}
use Rattle.room_object.specs.Entry.{Entry}
use Rattle.session_pool.specs.Passes.{unseen}
use Rattle.session_pool.specs.Placed.{AttachedBy}
use Rattle.session_pool.proofs.Places.{all_more, all_moved, all_next, all_none, moved_on, none_moved}
use Rattle.session_pool.proofs.Dealing.{as_many_rows, dealt_more, none_dealt, rows_belong, rows_numbered}
use Rattle.session_pool.proofs.Seeing.{all_opened, none_opened, one_opened}
use Rattle.session_pool.proofs.rooms.set_up_rooms.Goals as goal

pub loop-room-init : goal.loop-room-init
loop-room-init g c =
    let e = c.into_iter-room-iterator.ensures.into_iter_gives.0 in
    let n = ap length e in
    let desks = c.in_ok-desks.ensures in
    let by_room = c.in_ok-by_room.ensures in (
      tt,
      tt,
      subst (All (λ b. (past : List (Entry (RoomCall GameKind))) × g.B.Object.stands_for b past)) (sym e) c.requires.stand,
      subst (All (λ b. (past : List (Entry (RoomCall GameKind))) → g.B.Object.stands_for b past → NobodyIn any_rules c.args.places (g.B.Object.number b) past)) (sym e) c.requires.nobody,
      none_moved (λ d. d.desk.object) (λ b. g.B.Object.number b) _ _ _ desks.items e,
      all_none (λ d. d.passes ≡ c.args.places) _ desks.items,
      none_dealt (λ v. map unseen v.items) _ _ c.args.places by_room.items desks.items,
      all_none (λ v. AttachedBy v.items None) _ by_room.items,
      omega (arith, n, desks.len, c.args.rooms.ok),
      omega (arith, n, by_room.len, c.args.rooms.ok),
      search rules,
      search rules,
      none_opened g.B.Object.stands_for (λ v. v.items) c.args.rooms.items _ _ e by_room.items,
    )

pub open_room-requires : goal.open_room-requires
open_room-requires g c =
    let e = c.in-Some.ensures.steps.0 in
    let i = c.loop-room.invariant in
    record {
      stands = (all_next (λ b. (past : List (Entry (RoomCall GameKind))) × g.B.Object.stands_for b past) _ _ _ e i.2).0;
      nobody = (all_next (λ b. (past : List (Entry (RoomCall GameKind))) → g.B.Object.stands_for b past → NobodyIn any_rules c.args.places (g.B.Object.number b) past) _ _ _ e i.3).0;
      passes = c.requires.places;
    }

pub loop-room-preserved : goal.loop-room-preserved
loop-room-preserved g c =
    let e = c.in-Some.ensures.steps.0 in
    let i = c.loop-room.invariant in
    let desks = c.push_reserved.ensures in
    let by_room = c.push_reserved-in-loop-room.ensures in
    let n = ap length e in (
      tt,
      tt,
      (all_next (λ b. (past : List (Entry (RoomCall GameKind))) × g.B.Object.stands_for b past) _ _ _ e i.2).1,
      (all_next (λ b. (past : List (Entry (RoomCall GameKind))) → g.B.Object.stands_for b past → NobodyIn any_rules c.args.places (g.B.Object.number b) past) _ _ _ e i.3).1,
      moved_on (λ d. d.desk.object) (λ b. g.B.Object.number b) _ _ _ _ _ _ _ desks.items e c.in_ok-desk.ensures.object i.4,
      all_more (λ d. d.passes ≡ c.args.places) _ _ _ desks.items i.5 c.in_ok-desk.ensures.count,
      dealt_more (λ v. map unseen v.items) _ _ _ _ c.args.places c.in_ok-desk.passes c.in_ok-desk.desk by_room.items desks.items c.in_ok-desk.ensures.passes i.6,
      all_more (λ v. AttachedBy v.items None) _ _ _ by_room.items i.7 c.in_ok-desk.ensures.free,
      omega (arith, n, i.8, desks.len),
      omega (arith, n, i.9, by_room.len),
      omega (arith, i.10, desks.capacity),
      omega (arith, i.11, by_room.capacity),
      one_opened g.B.Object.stands_for (λ v. v.items) c.args.rooms.items _ _ _ _ c.in-Some.room c.in_ok-desk.passes e by_room.items c.in_ok-desk.ensures.seen i.12,
    )

pub returns-clause-objects : goal.returns-clause-objects
returns-clause-objects g c =
    all_moved (λ d. d.desk.object) (λ b. g.B.Object.number b) _ _ _ (omega (arith, c.in-None.ensures.steps.0, c.loop-room.room-iterator.rest.ok.0)) c.loop-room.invariant.4 ∙ c.requires.numbered

pub returns-clause-some : goal.returns-clause-some
returns-clause-some g c =
    let rows = ap length c.in_ok-rows.ensures.rows in
    let row_count = as_many_rows c.as_slice.result.now 0 c.args.places in
    let row_mapped = length-map c.in_ok-rows.rows.items (λ v. map unseen v.items) in
    (omega (arith, c.in-None.ensures.steps.0, c.loop-room.room-iterator.rest.ok.0, c.loop-room.invariant.8), omega (arith, rows, row_count, row_mapped, c.in_ok-rows.rows.ok))

pub returns-clause-belong : goal.returns-clause-belong
returns-clause-belong g c = rows_belong (λ v. v.items) c.loop-room.desks.items c.in_ok-rows.rows.items 0 c.args.places (search rules)

pub returns-clause-within : goal.returns-clause-within
returns-clause-within g c =
    rows_numbered (λ v. v.items) c.loop-room.desks.items c.in_ok-rows.rows.items 0 c.args.places (search rules) c.args.places (omega arith)
    (omega (arith, c.in-None.ensures.steps.0, c.loop-room.room-iterator.rest.ok.0, c.loop-room.invariant.8, c.loop-room.desks.ok, c.requires.rooms.0))

pub returns-clause-seen : goal.returns-clause-seen
returns-clause-seen g c =
    let opened =
    all_opened g.B.Object.stands_for (λ v. v.items) c.args.rooms.items _ c.loop-room.by_room.items (omega (arith, c.in-None.ensures.steps.0, c.loop-room.room-iterator.rest.ok.0)) c.loop-room.invariant.12 in
    (opened.0, opened.1, c.in_ok-rows.ensures.seen opened.0 opened.2)
