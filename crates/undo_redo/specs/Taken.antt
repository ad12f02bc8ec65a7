-- An act, and the state that it led to.
pub record Taken (S A : Type 0) : Type 0 where
  pub act : A
  pub after : S
