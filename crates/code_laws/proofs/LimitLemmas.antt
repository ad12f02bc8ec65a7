-- What is counted of counts that are told apart so far is told apart so far.
use Rattle.std.proofs.Common.{◌≡◌, ℕ, zero, suc, ◌+◌, ◌*◌, ◌≤◌, min, max, ◌⊎◌, inl, inr, sym, ap, ◌∙◌, arith, suc-mul, zero-mul, refl}
use Rattle.std.proofs.lemmas.Bool.{ltb-false, ltb-true}
use Rattle.std.specs.Prelude.{nat_lt, Bool, true, false}
use Rattle.code_laws.specs.Limit.{limited}

pub limited_sum : (a b : ℕ) → limited (limited a + limited b) ≡ limited (a + b)
limited_sum a b = omega arith

pub limited_next : (b : ℕ) → limited (1 + limited b) ≡ limited (1 + b)
limited_next b = omega arith

pub limited_greater : (a b : ℕ) → max (limited a) (limited b) ≡ limited (max a b)
limited_greater a b = omega arith

small_if : (b : ℕ) (below : Bool) → nat_lt b 1000000 ≡ below → (limited b ≡ b) ⊎ ((limited b ≡ 1000000) × (1000000 ≤ b))
small_if b true is = let few = ltb-true b 1000000 is in inl (omega (arith, few))
small_if b false is = let many = ltb-false b 1000000 is in inr (omega (arith, many), omega (arith, many))

-- a count below the limit is itself, and another one is the limit
small_or_large : (b : ℕ) → (limited b ≡ b) ⊎ ((limited b ≡ 1000000) × (1000000 ≤ b))
small_or_large b = small_if b (nat_lt b 1000000) refl

large : (k b : ℕ) → 1000000 ≤ b → 1000000 ≤ suc k * b
large k b enough = let one : suc k * b ≡ k * b + b = suc-mul k b in omega (arith, one, enough)

pub limited_times : (k b : ℕ) → limited (k * limited b) ≡ limited (k * b)
limited_times zero b = ap limited (zero-mul (limited b) ∙ sym (zero-mul b))
limited_times (suc k) b = elim (small_or_large b) [
  | inl same ↦ ap (λ n. limited (suc k * n)) same
  | inr more ↦
      let one : 1000000 ≤ suc k * limited b = large k (limited b) (omega (arith, more.0)) in
      let other : 1000000 ≤ suc k * b = large k b more.1 in
      omega (arith, one, other)
]
