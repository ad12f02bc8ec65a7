use Rattle.std.proofs.Common.{◌≡◌, map}
use Rattle.std.specs.Prelude.{All}
use Rattle.link_rounds.specs.Places.{Sits, about, seated_bots, seated_others}
use Rattle.link_rounds.proofs.bench.admit.Given as goal

abbrev pub invariant-loop : goal.invariant-loop
invariant-loop g l =
    let a = about g.D.L.Link.answers g.D.L.Link.sent g.D.L.Link.faults g.D.L.Link.stage g.D.L.Link.clear g.D.L.Link.is_bot in
    (goal.iterator-loop g).can_next l.iterator' × (goal.iterator-loop g).is_finite l.iterator'
    × All (λ p. g.S.Service.fits l.hall p.service) l.bench.places.items
    × All (Sits g.S.Service.turn g.S.Service.leave a g.S.Service.rests) l.bench.places.items
    × (l.share.parts ≡ 1) × (l.bots.parts ≡ 1)
    × (l.share.amount ≡ seated_others g.D.Door.has_bots g.D.L.Link.is_bot l.bench.places.items) × (l.bots.amount ≡ seated_bots g.D.Door.has_bots g.D.L.Link.is_bot l.bench.places.items)
    × (map (λ p. g.S.Service.number p.service) l.bench.places.items ≡ map (λ p. g.S.Service.number p.service) l.fn.bench.places.items)
