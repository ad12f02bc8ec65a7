-- A walk over all places of a list changes each of them once.
use Rattle.std.proofs.Common.{◌≡◌, ◌≤◌, ℕ, zero, suc, List, [], ◌∷◌, length, map, refl, ap, arith}
use Rattle.match_master.specs.Places.{at_place, up_to_place}

pub at_up_to : {A : Type 0} (n : ℕ) (f : A → A) (xs : List A) → at_place n f (up_to_place n f xs) ≡ up_to_place (suc n) f xs
at_up_to zero f [] = refl
at_up_to zero f (x ∷ xs) = refl
at_up_to (suc n) f [] = refl
at_up_to (suc n) f (x ∷ xs) = ap (λ l. f x ∷ l) (at_up_to n f xs)

pub up_to_all : {A : Type 0} (n : ℕ) (f : A → A) (xs : List A) → length xs ≤ n → up_to_place n f xs ≡ map f xs
up_to_all zero f [] h = refl
up_to_all zero f (x ∷ xs) h = absurd (omega arith)
up_to_all (suc n) f [] h = refl
up_to_all (suc n) f (x ∷ xs) h = ap (λ l. f x ∷ l) (up_to_all n f xs (omega arith))

pub length-at_place : {A : Type 0} (n : ℕ) (f : A → A) (xs : List A) → length (at_place n f xs) ≡ length xs
length-at_place zero f [] = refl
length-at_place zero f (x ∷ xs) = refl
length-at_place (suc n) f [] = refl
length-at_place (suc n) f (x ∷ xs) = ap suc (length-at_place n f xs)

pub length-up_to : {A : Type 0} (n : ℕ) (f : A → A) (xs : List A) → length (up_to_place n f xs) ≡ length xs
length-up_to zero f xs = refl
length-up_to (suc n) f [] = refl
length-up_to (suc n) f (x ∷ xs) = ap suc (length-up_to n f xs)
