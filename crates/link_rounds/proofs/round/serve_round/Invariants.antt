use Rattle.std.proofs.Common.{◌≡◌, map}
use Rattle.std.specs.Prelude.{All, take}
use Rattle.link_rounds.specs.Places.{Round, Sits, about}
use Rattle.link_rounds.proofs.round.serve_round.Given as goal

abbrev pub invariant-loop-at : goal.invariant-loop-at
invariant-loop-at g l =
    let a = about g.L.Link.answers g.L.Link.sent g.L.Link.faults g.L.Link.stage g.L.Link.clear g.L.Link.is_bot in
    All (λ p. g.S.Service.fits l.hall p.service) l.places
    × All (Sits g.S.Service.turn g.S.Service.leave a g.S.Service.rests) l.places
    × Round g.S.Service.turn g.S.Service.leave a (take l.at l.numbers) l.fn.places l.places
    × (map (λ p. g.S.Service.number p.service) l.places ≡ map (λ p. g.S.Service.number p.service) l.fn.places)
