-- An entry of a history: which pass made a call, the call, and whether it was refused for want of memory.
use Rattle.std.specs.Prelude.{ℕ, Bool}

pub record Entry (C : Type 0) : Type 0 where
  pub pass : ℕ
  pub call : C
  pub starved : Bool

abbrev pub entry : {C : Type 0} → ℕ → C → Bool → Entry C
entry pass call starved = record { pass = pass; call = call; starved = starved }
