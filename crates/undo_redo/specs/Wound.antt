-- How a trail is kept: its steps in their order, of which a number are done.
use Rattle.std.specs.Prelude.{ℕ, List, ◌∷◌, drop, map, reverse, take, slice_index_or}
use Rattle.undo_redo.specs.Kept.{Kept}
use Rattle.undo_redo.specs.Taken.{Taken}

abbrev pub acts_of : {S A : Type 0} → List (Taken S A) → List A
acts_of steps = map (λ s. s.act) steps

abbrev pub states_of : {S A : Type 0} → List (Taken S A) → List S
states_of steps = map (λ s. s.after) steps

abbrev pub wound : {S A : Type 0} → S → List (Taken S A) → ℕ → Kept S A
wound first steps count = record {
  first = first;
  done = reverse (take count (acts_of steps));
  undone = drop count (acts_of steps);
  now = slice_index_or (first ∷ states_of steps) count first;
  past = reverse (take count (first ∷ states_of steps));
  ahead = drop count (states_of steps);
}
