-- Counts are told apart below a million.
use Rattle.std.specs.Prelude.{ℕ, min}

abbrev pub limited : ℕ → ℕ
limited count = min count 1000000
