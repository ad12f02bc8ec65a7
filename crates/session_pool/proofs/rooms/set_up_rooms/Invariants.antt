use Rattle.std.proofs.Common.{◌≡◌, ◌+◌, ◌≤◌, ◌++◌, List, map, length}
use Rattle.std.specs.Prelude.{All, None, vec_len, vec_capacity}
use Rattle.std.specs.Vec.Iter.{into_iter_items}
use Rattle.any_game.specs.AnyRules.{any_rules}
use Rattle.any_game.specs.GameKind.{GameKind}
use Rattle.hosted_room.specs.Calls.{NobodyIn}
use Rattle.room_history.specs.declared.call.RoomCall.{RoomCall}
use Rattle.room_object.specs.Entry.{Entry}
use Rattle.session_pool.specs.Passes.{unseen}
use Rattle.session_pool.specs.Placed.{AttachedBy}
use Rattle.session_pool.specs.Rooms.{dealt_to}
use Rattle.session_pool.proofs.Seeing.{Opened}
use Rattle.session_pool.proofs.rooms.set_up_rooms.Given as goal

abbrev pub invariant-loop-room : goal.invariant-loop-room
invariant-loop-room g l =
    (goal.iterator-loop-room g).can_next l.room-iterator × (goal.iterator-loop-room g).is_finite l.room-iterator
    × All (λ b. (past : List (Entry (RoomCall GameKind))) × g.B.Object.stands_for b past) (into_iter_items l.room-iterator)
    × All (λ b. (past : List (Entry (RoomCall GameKind))) → g.B.Object.stands_for b past → NobodyIn any_rules l.places (g.B.Object.number b) past) (into_iter_items l.room-iterator)
    × (map (λ d. d.desk.object) l.desks.items ++ map (λ b. g.B.Object.number b) (into_iter_items l.room-iterator) ≡ map (λ b. g.B.Object.number b) l.fn.rooms.items)
    × All (λ d. d.passes ≡ l.places) l.desks.items
    × (map (λ v. map unseen v.items) l.by_room.items ≡ dealt_to l.desks.items l.places)
    × All (λ v. AttachedBy v.items None) l.by_room.items
    × (vec_len l.desks + length (into_iter_items l.room-iterator) ≡ vec_len l.fn.rooms)
    × (vec_len l.by_room + length (into_iter_items l.room-iterator) ≡ vec_len l.fn.rooms)
    × (vec_len l.fn.rooms ≤ vec_capacity l.desks) × (vec_len l.fn.rooms ≤ vec_capacity l.by_room)
    × Opened g.B.Object.stands_for (λ v. v.items) l.fn.rooms.items (into_iter_items l.room-iterator) l.by_room.items
