-- What a test that passes says of a place of a list, of what is given, and of two places that pass it.
use Rattle.std.proofs.Common.{◌≡◌, ◌&&◌, ℕ, zero, suc, ◌+◌, ◌≤◌, Bool, true, false, Option, None, Some, List, [], ◌∷◌, All, arith, refl, sym, ap, subst, cond, ◌∙◌, inl, inr}
use Rattle.std.specs.Prelude.{slice_get, count_by}
use Rattle.std.specs.List.{list_all, enumerate_from}
use Rattle.std.proofs.lemmas.Bool.{cases_Bool, true≢false}
use Rattle.std.proofs.lemmas.List.Sums.{sum_by-cons}
use Rattle.std.proofs.lemmas.List.Elements.{All-nil, All-cons}
use Rattle.game_sheet.specs.SheetRules.{first_broken, where_given}

pub both : (a b : Bool) → (a && b) ≡ true → (a ≡ true) × (b ≡ true)
both true b h = (refl, h)
both false b h = absurd (true≢false (sym h))

-- each element of a list that passes as a whole passes
pub all_at : {X : Type 0} (p : X → Bool) (xs : List X) (i : ℕ) (x : X) → list_all p xs ≡ true → slice_get xs i ≡ Some x → p x ≡ true
all_at p [] i x h e = cc
all_at p (y ∷ ys) zero x h e = let same : y ≡ x = cc in subst (λ z. p z ≡ true) same (both (p y) (list_all p ys) h).0
all_at p (y ∷ ys) (suc i) x h e = all_at p ys i x (both (p y) (list_all p ys) h).1 e

pub each_of : {X : Type 0} (p : X → Bool) (P : X → Type 0) → ((x : X) → p x ≡ true → P x) → (xs : List X) → list_all p xs ≡ true → All P xs
each_of p P f [] h = All-nil P
each_of p P f (x ∷ xs) h = All-cons P x xs (f x (both (p x) (list_all p xs) h).0) (each_of p P f xs (both (p x) (list_all p xs) h).1)

pub given_at : {X : Type 0} (p : X → Bool) (o : Option X) (x : X) → where_given p o ≡ true → o ≡ Some x → p x ≡ true
given_at p None x h e = cc
given_at p (Some y) x h e = let same : y ≡ x = cc in subst (λ z. p z ≡ true) same h

pub enumerated : {X : Type 0} (xs : List X) (n i : ℕ) (x : X) → slice_get xs i ≡ Some x → slice_get (enumerate_from n xs) i ≡ Some (n + i, x)
enumerated [] n i x e = cc
enumerated (y ∷ ys) n zero x e = let same : y ≡ x = cc in let at : n ≡ n + 0 = omega arith in ap (λ z. Some (n, z)) same ∙ ap (λ m. Some (m, x)) at
enumerated (y ∷ ys) n (suc i) x e = let at : n + 1 + i ≡ n + suc i = omega arith in enumerated ys (n + 1) i x e ∙ ap (λ m. Some (m, x)) at

count_yes : {X : Type 0} (p : X → Bool) (x : X) (xs : List X) → p x ≡ true → count_by p (x ∷ xs) ≡ 1 + count_by p xs
count_yes p x xs t = sum_by-cons (λ y. cond (p y) 1 0) x xs ∙ ap (λ b. cond b 1 0 + count_by p xs) t

count_no : {X : Type 0} (p : X → Bool) (x : X) (xs : List X) → p x ≡ false → count_by p (x ∷ xs) ≡ 0 + count_by p xs
count_no p x xs t = sum_by-cons (λ y. cond (p y) 1 0) x xs ∙ ap (λ b. cond b 1 0 + count_by p xs) t

fewer : {X : Type 0} (p : X → Bool) (x : X) (xs : List X) → count_by p (x ∷ xs) ≡ 0 → count_by p xs ≡ 0
fewer p x xs c = elim (cases_Bool (p x)) [
  | inl t ↦ let one = count_yes p x xs t in omega (arith, one)
  | inr t ↦ let none = count_no p x xs t in omega (arith, none)
]

none_left : {X : Type 0} (p : X → Bool) (xs : List X) (i : ℕ) (x : X) → count_by p xs ≡ 0 → slice_get xs i ≡ Some x → p x ≡ true → ⊥
none_left p [] i x c e t = cc
none_left p (y ∷ ys) zero x c e t =
    let same : x ≡ y = cc in
    let one = count_yes p y ys (subst (λ z. p z ≡ true) same t) in
    omega (arith, one)
none_left p (y ∷ ys) (suc i) x c e t = none_left p ys i x (fewer p y ys c) e t

rest_none : {X : Type 0} (p : X → Bool) (x : X) (xs : List X) → count_by p (x ∷ xs) ≡ 1 → p x ≡ true → count_by p xs ≡ 0
rest_none p x xs c t = let one = count_yes p x xs t in omega (arith, one)

-- where one element passes, two places that pass are one
pub one_place : {X : Type 0} (p : X → Bool) (xs : List X) (i j : ℕ) (x y : X) → count_by p xs ≡ 1 → slice_get xs i ≡ Some x → p x ≡ true → slice_get xs j ≡ Some y → p y ≡ true → i ≡ j
one_place p [] i j x y c e s f t = cc
one_place p (z ∷ zs) zero zero x y c e s f t = refl
one_place p (z ∷ zs) zero (suc j) x y c e s f t =
    let same : x ≡ z = cc in
    absurd (none_left p zs j y (rest_none p z zs c (subst (λ w. p w ≡ true) same s)) f t)
one_place p (z ∷ zs) (suc i) zero x y c e s f t =
    let same : y ≡ z = cc in
    absurd (none_left p zs i x (rest_none p z zs c (subst (λ w. p w ≡ true) same t)) e s)
one_place p (z ∷ zs) (suc i) (suc j) x y c e s f t = ap suc (elim (cases_Bool (p z)) [
  | inl q ↦ absurd (none_left p zs i x (rest_none p z zs c q) e s)
  | inr q ↦ one_place p zs i j x y (let none = count_no p z zs q in omega (arith, none)) e s f t
])

-- no rule is broken only where all are kept
pub all_kept : (rule : ℕ) (kept : List Bool) → 1 ≤ rule → first_broken rule kept ≡ 0 → list_all (λ k. k) kept ≡ true
all_kept rule [] m h = refl
all_kept rule (true ∷ later) m h = all_kept (rule + 1) later (omega arith) h
all_kept rule (false ∷ later) m h = absurd (omega arith)
