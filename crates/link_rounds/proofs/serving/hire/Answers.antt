use Rattle.std.proofs.Common.{◌≡◌, arith, ap, length}
use Rattle.link_rounds.proofs.Workers.{all_more, taken_on}
use Rattle.link_rounds.proofs.serving.hire.Goals as goal

pub loop-bench-preserved : goal.loop-bench-preserved
loop-bench-preserved g c =
    let e = c.in-Some.ensures.steps.0 in
    let i = c.loop-bench.invariant in
    let push = c.push_reserved.ensures.items in
    let n = ap length e in (
      tt,
      tt,
      omega (arith, c.split_off-share.ensures.parts_left, n, i.2),
      omega (arith, c.split_off-share.ensures.amount_left, i.3),
      omega (arith, c.split_off-bots.ensures.parts_left, n, i.4),
      omega (arith, c.split_off-bots.ensures.amount_left, i.5),
      all_more (λ x. (x.share.parts ≡ 1) × (x.bots.parts ≡ 1)) _ _ _ push i.6 (c.split_off-share.ensures.parts, c.split_off-bots.ensures.parts),
      all_more (λ x. (x.share.amount ≡ 0) × (x.bots.amount ≡ 0)) _ _ _ push i.7 (c.split_off-share.ensures.amount, c.split_off-bots.ensures.amount),
      taken_on (λ x. x.bench) _ _ _ _ _ _ push e i.8,
      omega (arith, n, i.9, c.push_reserved.ensures.len, c.push_reserved.ensures.capacity),
    )
