use Rattle.std.proofs.Common.{◌≡◌, ◌+◌, ◌≤◌, ◌++◌, map, length, false, is_some}
use Rattle.std.specs.Prelude.{All, vec_len, vec_capacity}
use Rattle.std.specs.Vec.Iter.{into_iter_items}
use Rattle.link_rounds.specs.Places.{Sits, about}
use Rattle.link_rounds.proofs.bench.Bench.new.Given as goal

abbrev pub invariant-loop-service : goal.invariant-loop-service
invariant-loop-service g l =
    let a = about g.L.Link.answers g.L.Link.sent g.L.Link.faults g.L.Link.stage g.L.Link.clear g.L.Link.is_bot in
    (goal.iterator-loop-service g).can_next l.service-iterator × (goal.iterator-loop-service g).is_finite l.service-iterator
    × (map (λ p. p.service) l.places.items ++ into_iter_items l.service-iterator ≡ l.fn.services.items)
    × All (λ p. is_some p.link ≡ false) l.places.items
    × All (λ p. g.S.Service.fits l._hall p.service) l.places.items
    × All (Sits g.S.Service.turn g.S.Service.leave a g.S.Service.rests) l.places.items
    × All (g.S.Service.fits l._hall) (into_iter_items l.service-iterator) × All g.S.Service.rests (into_iter_items l.service-iterator)
    × (vec_len l.places + length (into_iter_items l.service-iterator) ≤ vec_capacity l.places)
    × (vec_len l.free + length (into_iter_items l.service-iterator) ≤ vec_capacity l.free)
    × (vec_len l.places + length (into_iter_items l.service-iterator) ≡ vec_len l.fn.services)
