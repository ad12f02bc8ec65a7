-- Where no newline stands.
use Rattle.std.specs.Prelude.{◌≢◌, ◌<◌, ℕ, List, slice_index}

-- no byte before this place is a newline
abbrev pub NoNewline : List ℕ → ℕ → Type 0
NoNewline bytes end = (k : ℕ) → k < end → slice_index bytes k ≢ 10
