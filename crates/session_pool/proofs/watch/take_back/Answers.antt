use Rattle.std.proofs.Common.{◌≡◌, None, ap, arith, length, refl, subst}
use Rattle.session_pool.specs.Watched.{desk_at}
use Rattle.session_pool.proofs.Watching.{back_on, next_there}
use Rattle.session_pool.proofs.watch.take_back.Goals as goal

pub unreachable-requires : goal.unreachable-requires
unreachable-requires g c =
    let i = c.loop-at.invariant in
    let next = next_there _ _ c.in-Some.at i.2.0 c.in-Some.ensures.steps.0 i.2.1 in
    let none = ap desk_at c.in_default.is in
    absurd (cc)

pub loop-at-preserved : goal.loop-at-preserved
loop-at-preserved g c =
    let i = c.loop-at.invariant in
    let e = c.in-Some.ensures.steps.0 in
    let n = ap length e in
    let next = next_there _ _ c.in-Some.at i.2.0 e i.2.1 in (
      tt,
      tt,
      (next.1, next.3),
      back_on _ _ _ _ _ _ _ c.push_reserved.ensures.items c.in-Some-at.is e i.3,
      omega (arith, n, i.4, c.push_reserved.ensures.len, c.push_reserved.ensures.capacity),
    )
