use Rattle.std.proofs.Common.{◌≡◌, ◌+◌, ◌<◌, ◌≤◌, ◌++◌, map, length, None}
use Rattle.std.specs.Prelude.{All, vec_len, vec_capacity}
use Rattle.std.specs.Vec.Iter.{into_iter_items}
use Rattle.session_pool.specs.Passes.{Belong, number_of}
use Rattle.session_pool.specs.Placed.{AttachedBy}
use Rattle.session_pool.specs.Sittings.{Fits, Rests}
use Rattle.session_pool.specs.Watched.{AllBegin, seen_of}
use Rattle.session_pool.proofs.door.raise.Given as goal

abbrev pub invariant-loop-passes : goal.invariant-loop-passes
invariant-loop-passes g l =
    (goal.iterator-loop-passes g).can_next l.passes-iterator × (goal.iterator-loop-passes g).is_finite l.passes-iterator
    × All (λ p. Belong l.desks (number_of p.items) p.items) (into_iter_items l.passes-iterator)
    × All (λ p. AttachedBy p.items None) (into_iter_items l.passes-iterator)
    × All (λ p. number_of p.items < g.K.Seeded.places) (into_iter_items l.passes-iterator)
    × All (Fits l.desks l.bench.desk g.K.Seeded.seed g.K.Seeded.places g.K.Seeded.pasts) l.sittings.items
    × All (Rests g.K.Seeded.seed g.K.Seeded.places g.K.Seeded.pasts) l.sittings.items
    × (map (λ x. x.passes) l.sittings.items ++ map (λ p. p.items) (into_iter_items l.passes-iterator) ≡ map (λ p. p.items) l.fn.passes.items)
    × (vec_len l.sittings + length (into_iter_items l.passes-iterator) ≤ vec_capacity l.sittings)
    × (vec_len l.sittings + length (into_iter_items l.passes-iterator) ≡ vec_len l.fn.passes)
    × (vec_len l.at_bench ≡ length (into_iter_items l.passes-iterator))
    × All (λ p. p.desk ≡ l.bench.desk) l.at_bench.items
    × All (λ p. AllBegin (seen_of p.items) g.K.Seeded.pasts) (into_iter_items l.passes-iterator)
