use Rattle.std.proofs.Common.{◌≡◌, ◌+◌, ◌++◌, map, length}
use Rattle.std.specs.Prelude.{vec_len, vec_capacity}
use Rattle.std.specs.Vec.Iter.{into_iter_items}
use Rattle.link_rounds.proofs.bench.Bench.give_up.Given as goal

abbrev pub invariant-loop-place : goal.invariant-loop-place
invariant-loop-place g l =
    (goal.iterator-loop-place g).can_next l.place-iterator × (goal.iterator-loop-place g).is_finite l.place-iterator
    × (l.services.items ++ map (λ p. p.service) (into_iter_items l.place-iterator) ≡ l.fn.services.items ++ map (λ p. p.service) l.fn.self.places.items)
    × (vec_len l.services + length (into_iter_items l.place-iterator) ≡ vec_len l.fn.services + vec_len l.fn.self.places)
    × (vec_capacity l.services ≡ vec_capacity l.fn.services)
