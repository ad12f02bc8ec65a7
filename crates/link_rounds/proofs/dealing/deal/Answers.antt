use Rattle.std.proofs.Common.{◌≡◌, arith, false, is_some, map}
use Rattle.std.specs.Prelude.{All}
use Rattle.link_rounds.specs.Places.{Sits, about}
use Rattle.link_rounds.proofs.Deals.{all_front, dealt_on}
use Rattle.link_rounds.proofs.Workers.{all_more}
use Rattle.link_rounds.proofs.dealing.deal.Goals as goal

pub loop-ready-preserved : goal.loop-ready-preserved
loop-ready-preserved g c =
    let a = about g.L.Link.answers g.L.Link.sent g.L.Link.faults g.L.Link.stage g.L.Link.clear g.L.Link.is_bot in
    let i = c.loop-ready.invariant in
    let e = c.in-Some-seat_from.ensures in
    let push = c.push_reserved.ensures.items in (
      dealt_on (λ b. map (λ p. p.service) b.places.items) c.loop-ready.benches.items c.push_reserved.new.self.items c.in-Some-seat_from.bench c.seat_from.new.services.items c.loop-ready.services.items _ push e.seated i.0,
      omega (arith, e.capacity, i.1),
      omega (arith, e.len, i.2),
      all_front (g.S.Service.fits c.args.hall.now) _ _ _ e.seated i.3,
      all_front g.S.Service.rests _ _ _ e.seated i.4,
      omega (arith, c.push_reserved.ensures.len, c.push_reserved.ensures.capacity, c.in-Some.ensures.cases, i.5),
      omega (arith, c.push_reserved.ensures.len),
      λ none. omega (arith, e.len, none, c.last_part-part.ensures.whole),
      all_more (λ b. All (λ p. is_some p.link ≡ false) b.places.items) _ _ _ push i.8 e.free,
      all_more (λ b. All (λ p. g.S.Service.fits c.args.hall.now p.service) b.places.items) _ _ _ push i.9 e.fit,
      all_more (λ b. All (Sits g.S.Service.turn g.S.Service.leave a g.S.Service.rests) b.places.items) _ _ _ push i.10 e.sit,
    )
