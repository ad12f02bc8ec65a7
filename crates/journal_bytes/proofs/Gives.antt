-- What was read of a source so far, and what is left of it.
use Rattle.std.proofs.Common.{◌≡◌, ℕ, List, ◌++◌, Option, IsSome}
use Rattle.board_links.specs.Pieces.{told_bytes}

pub record Front (bytes all : List ℕ) (left : Option (List ℕ)) : Type 0 where
  pub told : IsSome left
  pub split : all ≡ bytes ++ told_bytes left
