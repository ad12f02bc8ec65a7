-- What is done to numbers is done to the values that they are.
use Rattle.std.proofs.Common.{◌≡◌, ℕ, zero, suc, ◌+◌, ◌<◌, ℤ, Option, Some, List, [], ◌∷◌, ◌++◌, length, map, take, drop, remove, replicate, get_or, set, refl, ap, ◌∙◌, sym, arith}
use Rattle.std.specs.Prelude.{slice_get, swap}
use Rattle.std.proofs.lemmas.List.{map-append, map-set, take-map, drop-map}
use Rattle.slot_values.specs.Values.{whole}

module _ {A B : Type 0} (f : A → B) where
  pub map_remove : (xs : List A) (i : ℕ) → map f (remove xs i) ≡ remove (map f xs) i
  map_remove xs i =
      map-append f (take i xs) (drop (suc i) xs) ∙ ap (λ ys. ys ++ map f (drop (suc i) xs)) (sym (take-map f i xs)) ∙ ap (λ ys. take i (map f xs) ++ ys) (sym (drop-map f (suc i) xs))

  map_get : (xs : List A) (i : ℕ) (d : A) → f (get_or xs i d) ≡ get_or (map f xs) i (f d)
  map_get [] i d = refl
  map_get (x ∷ xs) zero d = refl
  map_get (x ∷ xs) (suc i) d = map_get xs i d

  pub map_swap : (xs : List A) (i j : ℕ) → map f (swap xs i j) ≡ swap (map f xs) i j
  map_swap [] i j = refl
  map_swap (d ∷ xs) i j =
      let one = get_or (d ∷ xs) j d in
      let other = get_or (d ∷ xs) i d in
      map-set f (set (d ∷ xs) i one) j other ∙ ap (λ ys. set ys j (f other)) (map-set f (d ∷ xs) i one)
      ∙ ap (λ y. set (set (map f (d ∷ xs)) i y) j (f other)) (map_get (d ∷ xs) j d) ∙ ap (λ y. set (set (map f (d ∷ xs)) i (get_or (map f (d ∷ xs)) j (f d))) j y) (map_get (d ∷ xs) i d)

  -- an item of a list is one of the values
  pub mapped_item : (xs : List A) (i : ℕ) (x : A) → i < length xs → x ≡ get_or xs i x → slice_get (map f xs) i ≡ Some (f x)
  mapped_item [] i x below is = absurd (omega (arith, below))
  mapped_item (y ∷ xs) zero x below is = ap (λ z. Some (f z)) (sym is)
  mapped_item (y ∷ xs) (suc i) x below is = mapped_item xs i x (omega (arith, below)) is

fill_suc : {A : Type 0} (n : ℕ) (v : A) (d : List A) → n < length d → set (replicate n v ++ drop n d) n v ≡ replicate (suc n) v ++ drop (suc n) d
fill_suc n v [] below = absurd (omega (arith, below))
fill_suc zero v (x ∷ d) below = refl
fill_suc (suc n) v (x ∷ d) below = ap (λ ys. v ∷ ys) (fill_suc n v d (omega (arith, below)))

-- one item more has the value
pub fill_step : {A : Type 0} (n : ℕ) (v : A) (d : List A) → n < length d → set (replicate n v ++ drop n d) n v ≡ replicate (n + 1) v ++ drop (n + 1) d
fill_step n v d below = let more : suc n ≡ n + 1 = omega arith in fill_suc n v d below ∙ ap (λ k. replicate k v ++ drop k d) more
