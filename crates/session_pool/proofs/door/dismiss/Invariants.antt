use Rattle.std.proofs.Common.{◌≡◌, ◌+◌, ◌≤◌, ◌++◌, map, length}
use Rattle.std.specs.Prelude.{vec_len, vec_capacity}
use Rattle.std.specs.Vec.Iter.{into_iter_items}
use Rattle.session_pool.proofs.door.dismiss.Given as goal

abbrev pub invariant-loop-sitting : goal.invariant-loop-sitting
invariant-loop-sitting g l =
    (goal.iterator-loop-sitting g).can_next l.sitting-iterator × (goal.iterator-loop-sitting g).is_finite l.sitting-iterator
    × (map (λ p. p.items) l.back.items ++ map (λ s. s.passes) (into_iter_items l.sitting-iterator) ≡ map (λ s. s.passes) l.fn.sittings.items)
    × (vec_len l.back + length (into_iter_items l.sitting-iterator) ≤ vec_capacity l.back)
    × (map (λ p. p.desk) l.bench_back.items ++ map (λ s. s.bench.desk) (into_iter_items l.sitting-iterator) ≡ map (λ s. s.bench.desk) l.fn.sittings.items)
    × (vec_len l.bench_back + length (into_iter_items l.sitting-iterator) ≤ vec_capacity l.bench_back)
