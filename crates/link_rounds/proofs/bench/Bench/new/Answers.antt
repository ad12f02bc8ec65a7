use Rattle.std.proofs.Common.{◌≡◌, arith, ap, length, false, is_some, subst, sym}
use Rattle.link_rounds.specs.Places.{Sits, about}
use Rattle.link_rounds.proofs.Workers.{all_more, all_next, taken_by}
use Rattle.link_rounds.proofs.bench.Bench.new.Goals as goal

pub loop-service-preserved : goal.loop-service-preserved
loop-service-preserved g c =
    let a = about g.L.Link.answers g.L.Link.sent g.L.Link.faults g.L.Link.stage g.L.Link.clear g.L.Link.is_bot in
    let e = c.in-Some.ensures.steps.0 in
    let i = c.loop-service.invariant in
    let push = c.push_reserved-in-loop-service.ensures.items in
    let n = ap length e in
    let new = c.new.ensures in
    let fit = all_next (g.S.Service.fits c.args._hall.now) _ _ _ e i.6 in
    let rest = all_next g.S.Service.rests _ _ _ e i.7 in (
      tt,
      tt,
      taken_by (λ p. p.service) _ _ _ _ _ _ _ push (ap (λ p. p.service) new) e i.2,
      all_more (λ p. is_some p.link ≡ false) _ _ _ push i.3 (ap (λ p. is_some p.link) new),
      all_more (λ p. g.S.Service.fits c.args._hall.now p.service) _ _ _ push i.4 (subst (λ p. g.S.Service.fits c.args._hall.now p.service) (sym new) fit.0),
      all_more (Sits g.S.Service.turn g.S.Service.leave a g.S.Service.rests) _ _ _ push i.5 (subst (Sits g.S.Service.turn g.S.Service.leave a g.S.Service.rests) (sym new) rest.0),
      fit.1,
      rest.1,
      omega (arith, n, i.8, c.push_reserved-in-loop-service.ensures.len, c.push_reserved-in-loop-service.ensures.capacity),
      omega (arith, n, i.9, c.push_reserved.ensures.len, c.push_reserved.ensures.capacity),
      omega (arith, n, i.10, c.push_reserved-in-loop-service.ensures.len),
    )
