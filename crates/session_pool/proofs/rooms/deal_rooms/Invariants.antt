use Rattle.std.proofs.Common.{◌≡◌, ◌≤◌, ◌-◌, List, map}
use Rattle.std.specs.Prelude.{All, None}
use Rattle.session_pool.specs.Passes.{unseen}
use Rattle.session_pool.specs.Placed.{AttachedBy}
use Rattle.session_pool.specs.Rooms.{HaveSeen, dealt_to, rows_from}
use Rattle.session_pool.specs.Watched.{History, seen_of}
use Rattle.session_pool.proofs.rooms.deal_rooms.Given as goal

abbrev pub invariant-loop-number : goal.invariant-loop-number
invariant-loop-number g l =
    (map (λ v. map unseen v.items) l.by_room.items ≡ dealt_to l.desks l.number)
    × (l.number ≤ l.places)
    × (map (λ v. map unseen v.items) l.rows.items ≡ rows_from l.desks l.number (l.places - l.number))
    × All (λ v. AttachedBy v.items None) l.by_room.items × All (λ v. AttachedBy v.items None) l.rows.items
    × ((pasts : List History) → HaveSeen (map (λ v. v.items) l.fn.by_room.items) pasts → HaveSeen (map (λ v. v.items) l.by_room.items) pasts × All (λ v. seen_of v.items ≡ pasts) l.rows.items)

abbrev pub decreases-loop-number : goal.decreases-loop-number
decreases-loop-number g l = l.number
