use Rattle.std.proofs.Common.{◌≡◌, ◌≤◌, ◌+◌, ◌++◌, List, Some, map, length}
use Rattle.std.specs.Prelude.{vec_len, vec_capacity}
use Rattle.std.specs.Vec.Iter.{into_iter_items}
use Rattle.room_desk.specs.History.{DeskId}
use Rattle.session_pool.specs.Watched.{desk_at}
use Rattle.session_pool.proofs.watch.take_back.Given as goal

abbrev pub invariant-loop-at : goal.invariant-loop-at
invariant-loop-at g l =
    (goal.iterator-loop-at g).can_next l.at-iterator × (goal.iterator-loop-at g).is_finite l.at-iterator
    × ((desks : List DeskId) × (map desk_at (into_iter_items l.at-iterator) ≡ map Some desks))
    × (map Some l.passes.items ++ into_iter_items l.at-iterator ≡ l.fn.watch.items)
    × (vec_len l.passes + length (into_iter_items l.at-iterator) ≤ vec_capacity l.passes)
