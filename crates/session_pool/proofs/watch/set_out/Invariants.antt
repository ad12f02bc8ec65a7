use Rattle.std.proofs.Common.{◌≡◌, ◌≤◌, ◌+◌, ◌++◌, Some, map, length}
use Rattle.std.specs.Prelude.{vec_len, vec_capacity}
use Rattle.std.specs.Vec.Iter.{into_iter_items}
use Rattle.session_pool.proofs.watch.set_out.Given as goal

abbrev pub invariant-loop-pass : goal.invariant-loop-pass
invariant-loop-pass g l =
    (goal.iterator-loop-pass g).can_next l.pass-iterator × (goal.iterator-loop-pass g).is_finite l.pass-iterator
    × (l.watch.items ++ map Some (into_iter_items l.pass-iterator) ≡ map Some l.fn.passes.items)
    × (vec_len l.watch + length (into_iter_items l.pass-iterator) ≤ vec_capacity l.watch)
