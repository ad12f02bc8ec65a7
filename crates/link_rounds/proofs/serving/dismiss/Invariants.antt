use Rattle.std.proofs.Common.{◌≡◌, ◌+◌, ◌≤◌, ◌++◌, map, length}
use Rattle.std.specs.Prelude.{All, vec_len, vec_capacity}
use Rattle.std.specs.Vec.Iter.{into_iter_items}
use Rattle.link_rounds.proofs.serving.dismiss.Given as goal

abbrev pub invariant-loop-worker : goal.invariant-loop-worker
invariant-loop-worker g l =
    (goal.iterator-loop-worker g).can_next l.worker-iterator × (goal.iterator-loop-worker g).is_finite l.worker-iterator
    × All (λ w. (w.share.parts ≡ 1) × (w.bots.parts ≡ 1)) (into_iter_items l.worker-iterator) × All (λ w. (w.share.amount ≡ 0) × (w.bots.amount ≡ 0)) (into_iter_items l.worker-iterator)
    × (l.all.parts + length (into_iter_items l.worker-iterator) ≡ l.fn.all.parts + vec_len l.fn.workers) × (l.all.amount ≡ l.fn.all.amount)
    × (l.all_bots.parts + length (into_iter_items l.worker-iterator) ≡ l.fn.all_bots.parts + vec_len l.fn.workers) × (l.all_bots.amount ≡ l.fn.all_bots.amount)
    × (l.back.items ++ map (λ w. w.bench) (into_iter_items l.worker-iterator) ≡ map (λ w. w.bench) l.fn.workers.items)
    × (vec_len l.back + length (into_iter_items l.worker-iterator) ≤ vec_capacity l.back)
