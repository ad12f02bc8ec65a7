use Rattle.std.proofs.Common.{◌≡◌, ◌+◌, length}
use Rattle.std.specs.Prelude.{vec_len}
use Rattle.std.specs.Vec.Iter.{into_iter_items}
use Rattle.poll_links.proofs.opening.readies.Given as goal

abbrev pub invariant-loop-poll : goal.invariant-loop-poll
invariant-loop-poll g l =
    (goal.iterator-loop-poll g).can_next l.poll-iterator × (goal.iterator-loop-poll g).is_finite l.poll-iterator
    × (vec_len l.readies + length (into_iter_items l.poll-iterator) ≡ vec_len l.fn.polls)
