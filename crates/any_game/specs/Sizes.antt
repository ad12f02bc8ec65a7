-- How long the text of a state may be.
use Rattle.std.specs.Prelude.{◌≤◌, ℕ, length}
use Rattle.serde_json.specs.Data.{Data}
use Rattle.serde_json.specs.Written.{compact_text}

-- the most bytes that the text of an own state has
abbrev pub most_bytes : ℕ
most_bytes = 8192

abbrev pub IsSmall : Data → Type 0
IsSmall v = length (compact_text v) ≤ most_bytes
