use Rattle.std.proofs.Common.{◌≡◌, arith, ap, length}
use Rattle.link_rounds.proofs.Workers.{all_next, moved_over}
use Rattle.link_rounds.proofs.serving.dismiss.Goals as goal

pub loop-worker-preserved : goal.loop-worker-preserved
loop-worker-preserved g c =
    let e = c.in-Some.ensures.steps.0 in
    let i = c.loop-worker.invariant in
    let p = all_next (λ w. (w.share.parts ≡ 1) × (w.bots.parts ≡ 1)) _ _ _ e i.2 in
    let q = all_next (λ w. (w.share.amount ≡ 0) × (w.bots.amount ≡ 0)) _ _ _ e i.3 in
    let n = ap length e in (
      tt,
      tt,
      p.1,
      q.1,
      omega (arith, c.merge.ensures.parts, p.0.0, n, i.4),
      omega (arith, c.merge.ensures.amount, q.0.0, i.5),
      omega (arith, c.merge-in-loop-worker.ensures.parts, p.0.1, n, i.6),
      omega (arith, c.merge-in-loop-worker.ensures.amount, q.0.1, i.7),
      moved_over (λ w. w.bench) _ _ _ _ _ _ e c.push_reserved.ensures.items i.8,
      omega (arith, n, i.9, c.push_reserved.ensures.len, c.push_reserved.ensures.capacity),
    )
