-- Numbers among the words of a command: decimal, without a sign or a leading zero, and in their bounds.
use Rattle.std.specs.Prelude.{ℕ, List, Option, Some, None, ◌&&◌, nat_le, if◌then◌else◌}
use Rattle.wire_json.specs.MatchText.{number_from}

abbrev pub within : ℕ → ℕ → Option ℕ → Option ℕ
within lo hi None = None
within lo hi (Some n) = if nat_le lo n && nat_le n hi then Some n else None

-- how many sessions a server has that is told no number of them: as many as can be counted, which none comes to
abbrev pub endless : ℕ
endless = 18446744073709551615

-- a number that isn't said is what stands for it
abbrev pub number_or : ℕ → ℕ → ℕ → Option (List ℕ) → Option ℕ
number_or lo hi unsaid None = Some unsaid
number_or lo hi unsaid (Some word) = within lo hi (number_from word)
