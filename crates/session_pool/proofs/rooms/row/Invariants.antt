use Rattle.std.proofs.Common.{◌≡◌, ◌+◌, ◌++◌, List, map, length}
use Rattle.std.specs.Prelude.{All, None, take, drop, vec_len, vec_capacity}
use Rattle.session_pool.specs.Passes.{unseen}
use Rattle.session_pool.specs.Placed.{AttachedBy}
use Rattle.session_pool.specs.Rooms.{HaveSeen, dealt_to, row_of}
use Rattle.session_pool.specs.Watched.{History, seen_of}
use Rattle.session_pool.proofs.rooms.row.Given as goal

abbrev pub invariant-loop-place : goal.invariant-loop-place
invariant-loop-place g l =
    (map (λ v. map unseen v.items) l.by_room.items ≡ dealt_to (take l.place l.desks) l.number ++ dealt_to (drop l.place l.desks) (l.number + 1))
    × (map unseen l.row.items ≡ row_of (take l.place l.desks) l.number)
    × (vec_len l.by_room ≡ length l.desks)
    × (vec_capacity l.row ≡ length l.desks) × (vec_len l.row ≡ l.place)
    × All (λ v. AttachedBy v.items None) l.by_room.items × AttachedBy l.row.items None
    × ((pasts : List History) → HaveSeen (map (λ v. v.items) l.fn.by_room.items) pasts → HaveSeen (map (λ v. v.items) l.by_room.items) pasts × (seen_of l.row.items ≡ take l.place pasts))
