use Rattle.std.proofs.Common.{◌≡◌, ◌+◌, length}
use Rattle.std.specs.Prelude.{vec_len}
use Rattle.std.specs.Vec.Iter.{into_iter_items}
use Rattle.board_commands.proofs.seating.readies_for.Given as goal

abbrev pub invariant-loop-ready : goal.invariant-loop-ready
invariant-loop-ready g l =
    (goal.iterator-loop-ready g).can_next l.ready-iterator × (goal.iterator-loop-ready g).is_finite l.ready-iterator
    × (vec_len l.seated + length (into_iter_items l.ready-iterator) ≡ vec_len l.fn.readies)
