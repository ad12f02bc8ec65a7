use Rattle.std.proofs.Common.{◌≡◌, ◌+◌, ◌≤◌, ◌++◌, map, length}
use Rattle.std.specs.Prelude.{All, vec_len, vec_capacity}
use Rattle.std.specs.Vec.Iter.{into_iter_items}
use Rattle.link_rounds.proofs.serving.hire.Given as goal

abbrev pub invariant-loop-bench : goal.invariant-loop-bench
invariant-loop-bench g l =
    (goal.iterator-loop-bench g).can_next l.bench-iterator × (goal.iterator-loop-bench g).is_finite l.bench-iterator
    × (l.all.parts ≡ length (into_iter_items l.bench-iterator)) × (l.all.amount ≡ 0)
    × (l.all_bots.parts ≡ length (into_iter_items l.bench-iterator)) × (l.all_bots.amount ≡ 0)
    × All (λ x. (x.share.parts ≡ 1) × (x.bots.parts ≡ 1)) l.workers.items × All (λ x. (x.share.amount ≡ 0) × (x.bots.amount ≡ 0)) l.workers.items
    × (map (λ x. x.bench) l.workers.items ++ into_iter_items l.bench-iterator ≡ l.fn.benches.items)
    × (vec_len l.workers + length (into_iter_items l.bench-iterator) ≤ vec_capacity l.workers)
