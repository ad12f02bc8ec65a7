-- The name of a match: the room that it stands in, and which of the room's matches it is.
use Rattle.std.specs.Prelude.{ℕ}

pub record Name : Type 0 where
  pub room : ℕ
  pub serial : ℕ
