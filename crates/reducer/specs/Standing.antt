-- What a match stands at: how many actions it has accepted, what it began with, which actions are done and undone, what the done ones have
-- come to, and what the actions of both lists led on from and lead to.
use Rattle.std.specs.Prelude.{ℕ, List}
use Rattle.phase_flow.specs.Reached.{Reached}
use Rattle.reducer.specs.Accepted.{Accepted}

pub record Standing (G : Type 0) : Type 0 where
  pub number : ℕ
  pub table : Reached G
  pub first : Reached G
  -- the latest first
  pub done : List Accepted
  -- the one that is done again next first
  pub undone : List Accepted
  -- what the done actions led on from, the latest first
  pub past : List (Reached G)
  -- what the undone actions lead to, the next first
  pub ahead : List (Reached G)
