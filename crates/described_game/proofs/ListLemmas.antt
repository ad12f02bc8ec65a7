-- Lists by their first items.
use Rattle.std.proofs.Common.{◌≡◌, ℕ, zero, suc, ◌+◌, ◌<◌, ◌≤◌, Bool, true, Option, Some, None, List, [], ◌∷◌, ◌++◌, length, get_or, drop, map, refl, ap, ◌∙◌, sym, arith}
use Rattle.std.specs.Prelude.{slice_get, unwrap_or}
use Rattle.std.specs.List.{cons_option, filter_map, list_all, range_with_len}
use Rattle.std.specs.Option.{option_to_list}
use Rattle.std.proofs.lemmas.List.Elements.{filter_map-append}
use Rattle.std.proofs.lemmas.List.FromFn.{map-range_with_len_more}
use Rattle.std.proofs.lemmas.Bool.{and_parts}

-- a list by its first item and the rest
pub first_rest : {X : Type 0} (xs : List X) (x : X) (rest : List X) → 0 < length xs → x ≡ get_or xs 0 x → rest ≡ drop 1 xs → xs ≡ x ∷ rest
first_rest [] x rest some here left = absurd (omega (arith, some))
first_rest (y ∷ xs) x rest some here left = ap (λ z. z ∷ xs) (sym here) ∙ ap (λ zs. x ∷ zs) (sym left)

-- past the end there is no item
pub past_none : {X : Type 0} (xs : List (Option X)) (i : ℕ) → length xs ≤ i → unwrap_or (slice_get xs i) None ≡ None
past_none [] i past = refl
past_none (x ∷ xs) zero past = absurd (omega (arith, past))
past_none (x ∷ xs) (suc i) past = past_none xs i (omega (arith, past))

-- an item of a list whose items all pass a test
pub item_passes : {X : Type 0} (test : X → Bool) (xs : List X) (i : ℕ) (x : X) → list_all test xs ≡ true → i < length xs → x ≡ get_or xs i x → test x ≡ true
item_passes test [] i x all below here = absurd (omega (arith, below))
item_passes test (y ∷ xs) zero x all below here = ap test here ∙ (and_parts (test y) (list_all test xs) all).0
item_passes test (y ∷ xs) (suc i) x all below here = item_passes test xs i x (and_parts (test y) (list_all test xs) all).1 (omega (arith, below)) here

range_longer : (a n : ℕ) → range_with_len a (suc n) ≡ range_with_len a n ++ (a + n) ∷ []
range_longer a zero = ap (λ k. k ∷ []) (omega arith)
range_longer a (suc n) = ap (λ ks. a ∷ ks) (range_longer (a + 1) n ∙ ap (λ k. range_with_len (a + 1) n ++ k ∷ []) (omega arith))

-- one number more
pub range_more : (n : ℕ) → range_with_len 0 (n + 1) ≡ range_with_len 0 n ++ n ∷ []
range_more n =
    let more : n + 1 ≡ suc n = omega arith in
    let last : 0 + n ≡ n = omega arith in
    ap (λ k. range_with_len 0 k) more ∙ range_longer 0 n ∙ ap (λ k. range_with_len 0 n ++ k ∷ []) last

one_found : {Y : Type 0} (found : Option Y) → cons_option found [] ≡ option_to_list found
one_found None = refl
one_found (Some y) = refl

-- what is found at one number more
pub found_more : {X Y : Type 0} (h : X → Option Y) (f : ℕ → X) (i : ℕ) (before after : List Y) → before ≡ filter_map h (map f (range_with_len 0 i)) → after ≡ before ++ option_to_list (h (f i)) → after ≡ filter_map h (map f (range_with_len 0 (i + 1)))
found_more h f i before after known is =
    let so_far = filter_map h (map f (range_with_len 0 i)) in
    is ∙ ap (λ ys. ys ++ option_to_list (h (f i))) known ∙ ap (λ ys. so_far ++ ys) (sym (one_found (h (f i))))
    ∙ sym (ap (filter_map h) (map-range_with_len_more f 0 i i (omega arith)) ∙ filter_map-append h (map f (range_with_len 0 i)) (f i ∷ []))
