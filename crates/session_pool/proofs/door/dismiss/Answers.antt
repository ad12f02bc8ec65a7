use Rattle.std.proofs.Common.{arith, ap, length}
use Rattle.session_pool.proofs.Places.{all_moved, moved_on}
use Rattle.session_pool.proofs.door.dismiss.Goals as goal

pub loop-sitting-preserved : goal.loop-sitting-preserved
loop-sitting-preserved g c =
    let e = c.in-Some.ensures.steps.0 in
    let i = c.loop-sitting.invariant in
    let n = ap length e in (
      tt,
      tt,
      moved_on (λ p. p.items) (λ s. s.passes) _ _ _ _ _ _ _ c.push_reserved.ensures.items e c.into_passes-passes.ensures.passes i.2,
      omega (arith, n, i.3, c.push_reserved.ensures.len, c.push_reserved.ensures.capacity),
      moved_on (λ p. p.desk) (λ s. s.bench.desk) _ _ _ _ _ _ _ c.push_reserved-in-loop-sitting.ensures.items e (ap (λ b. b.desk) c.into_passes-passes.ensures.bench) i.4,
      omega (arith, n, i.5, c.push_reserved-in-loop-sitting.ensures.len, c.push_reserved-in-loop-sitting.ensures.capacity),
    )

pub returns-clause-back : goal.returns-clause-back
returns-clause-back g c = all_moved (λ p. p.items) (λ s. s.passes) _ _ _ (omega (arith, c.in-None.ensures.steps.0, c.loop-sitting.sitting-iterator.rest.ok.0)) c.loop-sitting.invariant.2

pub returns-clause-bench_back : goal.returns-clause-bench_back
returns-clause-bench_back g c =
    all_moved (λ p. p.desk) (λ s. s.bench.desk) _ _ _ (omega (arith, c.in-None.ensures.steps.0, c.loop-sitting.sitting-iterator.rest.ok.0)) c.loop-sitting.invariant.4
