-- What a trail keeps: its first state, the acts done, the acts undone, the present state, and the states that these acts led from and lead to.
use Rattle.std.specs.Prelude.{List, []}

pub record Kept (S A : Type 0) : Type 0 where
  pub first : S
  -- the latest first
  pub done : List A
  -- the one that is done again next first
  pub undone : List A
  pub now : S
  -- the states that the acts done led on from, the latest first
  pub past : List S
  -- the states that the acts undone lead to, the next first
  pub ahead : List S

-- a trail on which nothing was done yet
abbrev pub new_trail : {S A : Type 0} → S → Kept S A
new_trail first = record { first = first; done = []; undone = []; now = first; past = []; ahead = [] }
