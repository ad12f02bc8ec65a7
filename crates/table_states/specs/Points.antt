-- The state of Pig.
use Rattle.std.specs.Prelude.{ℕ, List}

-- what is in the pot, and each seat's total
pub record Points : Type 0 where
  pub pot : ℕ
  pub totals : List ℕ
