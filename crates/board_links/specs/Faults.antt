-- A count of faults never falls, and stands still at the last value of 64 bits. It has risen where it is greater than it
-- was, or stands at that last value.
use Rattle.std.specs.Prelude.{ℕ, ◌+◌, ◌≤◌, min}

abbrev pub last_count : ℕ
last_count = 18446744073709551615

abbrev pub HasRisen : ℕ → ℕ → Type 0
HasRisen old new = min (old + 1) last_count ≤ new
