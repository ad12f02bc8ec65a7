-- Sums over the seats of a table, and reads of a list after one item is set or added.
use Rattle.std.proofs.Common.{◌≡◌, ◌≢◌, ℕ, zero, suc, ◌+◌, ◌<◌, ◌≤◌, ◌⊎◌, List, [], ◌∷◌, ◌++◌, length, set, refl, ap, sym, subst, inl, inr, ⊎_elim, arith}
use mathlib.Core.Option.{some, some-injective, some-ne-none}
use lib.ListN.{get_elem?}
use Rattle.room_desk.specs.Turns.{total, Has}

module _ {A : Type 0} where
  pub total_set : (f : A → ℕ) (l : List A) (i : ℕ) (a b : A) → get_elem? l i ≡ some a → total f (set l i b) + f a ≡ total f l + f b
  total_set f [] i a b e = absurd (some-ne-none a (sym e))
  total_set f (x ∷ xs) zero a b e = let h : f x ≡ f a = ap f (some-injective x a e) in omega arith
  total_set f (x ∷ xs) (suc i) a b e = let h = total_set f xs i a b e in omega arith

  pub total_snoc : (f : A → ℕ) (l : List A) (a : A) → total f (l ++ a ∷ []) ≡ total f l + f a
  total_snoc f [] a = omega arith
  total_snoc f (x ∷ xs) a = let h = total_snoc f xs a in omega arith

  pub total_part : (f : A → ℕ) (l : List A) (i : ℕ) (a : A) → get_elem? l i ≡ some a → f a ≤ total f l
  total_part f [] i a e = absurd (some-ne-none a (sym e))
  total_part f (x ∷ xs) zero a e = let h : f x ≡ f a = ap f (some-injective x a e) in omega arith
  total_part f (x ∷ xs) (suc i) a e = let h = total_part f xs i a e in omega arith

  pub total_two : (f : A → ℕ) (l : List A) (i j : ℕ) (a b : A) → i ≢ j → get_elem? l i ≡ some a → get_elem? l j ≡ some b → f a + f b ≤ total f l
  total_two f [] i j a b n e d = absurd (some-ne-none a (sym e))
  total_two f (x ∷ xs) zero zero a b n e d = absurd (n refl)
  total_two f (x ∷ xs) zero (suc j) a b n e d = let h : f x ≡ f a = ap f (some-injective x a e) in let k = total_part f xs j b d in omega arith
  total_two f (x ∷ xs) (suc i) zero a b n e d = let h : f x ≡ f b = ap f (some-injective x b d) in let k = total_part f xs i a e in omega arith
  total_two f (x ∷ xs) (suc i) (suc j) a b n e d = let k = total_two f xs i j a b (λ h. n (ap suc h)) e d in omega arith

  pub total_less : (f g : A → ℕ) (l : List A) → ((i : ℕ) (a : A) → get_elem? l i ≡ some a → f a ≤ g a) → total f l ≤ total g l
  total_less f g [] le = omega arith
  total_less f g (x ∷ xs) le = let h = le 0 x refl in let k = total_less f g xs (λ i a e. le (suc i) a e) in omega arith

  pub length_at : (l : List A) (i : ℕ) (a : A) → get_elem? l i ≡ some a → i < length l
  length_at [] i a e = absurd (some-ne-none a (sym e))
  length_at (x ∷ xs) zero a e = omega arith
  length_at (x ∷ xs) (suc i) a e = let h = length_at xs i a e in omega arith

  one : (a b : A) (i : ℕ) → get_elem? (a ∷ []) i ≡ some b → a ≡ b
  one a b zero e = some-injective a b e
  one a b (suc i) e = absurd (some-ne-none b (sym e))

  pub only_one : (l : List A) (a b : A) (i : ℕ) → l ≡ a ∷ [] → get_elem? l i ≡ some b → a ≡ b
  only_one l a b i is e = one a b i (subst (λ (m : List A). get_elem? m i ≡ some b) is e)

  zero_place : (a b : A) (i : ℕ) → get_elem? (a ∷ []) i ≡ some b → i ≡ 0
  zero_place a b zero e = refl
  zero_place a b (suc i) e = absurd (some-ne-none b (sym e))

  pub only_place : (l : List A) (a b : A) (i : ℕ) → l ≡ a ∷ [] → get_elem? l i ≡ some b → i ≡ 0
  only_place l a b i is e = zero_place a b i (subst (λ (m : List A). get_elem? m i ≡ some b) is e)

  pub added_at : (l : List A) (a b : A) (j : ℕ) → get_elem? (l ++ a ∷ []) j ≡ some b → (get_elem? l j ≡ some b) ⊎ ((j ≡ length l) × (a ≡ b))
  added_at [] a b zero e = inr (refl, some-injective a b e)
  added_at [] a b (suc j) e = absurd (some-ne-none b (sym e))
  added_at (x ∷ xs) a b zero e = inl e
  added_at (x ∷ xs) a b (suc j) e = ⊎_elim inl (λ t. inr (ap suc t.0, t.1)) (added_at xs a b j e)

  pub has_first : (l m : List A) (a : A) → Has l a → Has (l ++ m) a
  has_first [] m a h = absurd h
  has_first (x ∷ xs) m a h = ⊎_elim inl (λ t. inr (has_first xs m a t)) h

  pub has_second : (l m : List A) (a : A) → Has m a → Has (l ++ m) a
  has_second [] m a h = h
  has_second (x ∷ xs) m a h = inr (has_second xs m a h)

  pub has_either : (l m : List A) (a : A) → Has (l ++ m) a → Has l a ⊎ Has m a
  has_either [] m a h = inr h
  has_either (x ∷ xs) m a h = ⊎_elim (λ t. inl (inl t)) (λ t. ⊎_elim (λ u. inl (inr u)) inr (has_either xs m a t)) h

  pub has_some : (l : List A) (a : A) → Has l a → 0 < length l
  has_some [] a h = absurd h
  has_some (x ∷ xs) a h = omega arith
