use Rattle.std.proofs.Common.{◌≡◌, ◌≤◌, ◌+◌, ◌++◌, ◌∷◌, Err, None, Ok, Some, length, map}
use Rattle.std.specs.Prelude.{vec_capacity, vec_len}
use Rattle.std.specs.Vec.Iter.{into_iter_items}
use Rattle.object_journal.specs.declared.replaying.OpenNo.{OpenNo}
use Rattle.kept_serve.proofs.opening.gather.Given as goal

-- the rooms so far, unless one of them wasn't opened
abbrev pub invariant-loop-result : goal.invariant-loop-result
invariant-loop-result g l = record {
  can_next : (goal.iterator-loop-result g).can_next l.result-iterator;
  is_finite : (goal.iterator-loop-result g).is_finite l.result-iterator;
  all : l.first ≡ None → map Ok l.rooms.items ++ into_iter_items l.result-iterator ≡ l.fn.results.items;
  counted : l.number + length (into_iter_items l.result-iterator) ≡ vec_len l.fn.results;
  room : vec_len l.rooms + length (into_iter_items l.result-iterator) ≤ vec_len l.fn.results;
  space : vec_len l.fn.results ≤ vec_capacity l.rooms;
  given : g.S.Shelf.given l.shelf ≡ g.S.Shelf.given l.fn.shelf;
  faults : g.S.Shelf.faults l.fn.shelf ≤ g.S.Shelf.faults l.shelf;
  passed : (done : _) × (done ++ into_iter_items l.result-iterator ≡ l.fn.results.items);
  found : (why : OpenNo) → l.first ≡ Some why → (before : _) × (after : _) × (l.fn.results.items ≡ before ++ Err why ∷ after);
}
