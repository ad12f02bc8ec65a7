use Rattle.std.proofs.Common.{◌≡◌, ◌<◌, arith, ap, length, None}
use Rattle.session_pool.specs.Passes.{Belong, number_of}
use Rattle.session_pool.specs.Placed.{AttachedBy}
use Rattle.session_pool.specs.Sittings.{Fits, Rests}
use Rattle.session_pool.specs.Watched.{AllBegin, seen_of}
use Rattle.session_pool.proofs.Places.{all_but_last, all_more, all_moved, all_next, moved_on}
use Rattle.session_pool.proofs.door.raise.Goals as goal

pub loop-passes-preserved : goal.loop-passes-preserved
loop-passes-preserved g c =
    let e = c.in-Some.ensures.steps.0 in
    let i = c.loop-passes.invariant in
    let push = c.push_reserved.ensures.items in
    let n = ap length e in (
      tt,
      tt,
      (all_next (λ p. Belong c.args.desks.now (number_of p.items) p.items) _ _ _ e i.2).1,
      (all_next (λ p. AttachedBy p.items None) _ _ _ e i.3).1,
      (all_next (λ p. number_of p.items < g.K.Seeded.places) _ _ _ e i.4).1,
      all_more (Fits c.args.desks.now c.args.bench.now.desk g.K.Seeded.seed g.K.Seeded.places g.K.Seeded.pasts) _ _ _ push i.5 c.rise.ensures.fit,
      all_more (Rests g.K.Seeded.seed g.K.Seeded.places g.K.Seeded.pasts) _ _ _ push i.6 c.rise.ensures.rest,
      moved_on (λ x. x.passes) (λ p. p.items) _ _ _ _ _ _ _ push e c.rise.ensures.passes i.7,
      omega (arith, n, i.8, c.push_reserved.ensures.len, c.push_reserved.ensures.capacity),
      omega (arith, n, i.9, c.push_reserved.ensures.len),
      omega (arith, n, i.10, c.in-Some-pop.ensures.len),
      (all_but_last (λ p. p.desk ≡ c.args.bench.now.desk) _ _ _ c.in-Some-pop.ensures.items i.11).1,
      (all_next (λ p. AllBegin (seen_of p.items) g.K.Seeded.pasts) _ _ _ e i.12).1,
    )

pub returns-clause-passes : goal.returns-clause-passes
returns-clause-passes g c = all_moved (λ x. x.passes) (λ p. p.items) _ _ _ (omega (arith, c.in-None.ensures.steps.0, c.loop-passes.passes-iterator.rest.ok.0)) c.loop-passes.invariant.7
