-- The numbers of a list in rising order, each once, are those numbers below a count that the list has.
use Rattle.std.proofs.Common.{◌≡◌, ℕ, zero, suc, ◌+◌, ◌<◌, ◌≤◌, Bool, true, false, cond, eqb, leb, pos, negsuc, Option, Some, None, List, [], ◌∷◌, length, get_or, refl, ap, ◌∙◌, sym, subst, inl, inr, arith}
use Rattle.std.specs.Prelude.{◌&&◌, ◌||◌, ◌==◌, nat_lt, if◌then◌else◌}
use Rattle.std.specs.List.{cons_option, dedup, filter, filter_map, range_with_len}
use Rattle.std.specs.List.Sorted.{IsNonDecreasingBy, IsPermutation, IsSorted}
use Rattle.std.specs.Ordering.{nat_cmp}
use Rattle.std.proofs.lemmas.Bool.{and_from, and_left, and_right, cases_eq, cases_lt, cases_order, eq-eqb, eqb-true, false≢true, le-leb, le-ltb, lt-leb, lt-ltb, ne_eqb}
use Rattle.std.proofs.lemmas.List.Sorted.{IsNonDecreasingBy-from_sort, list_any-IsPermutation}
use Rattle.described_game.specs.Offers.{has_number, is_among}
use Rattle.described_game.specs.Rising.{Rises, number_below}
use Rattle.game_sheet.specs.declared.args.Arg.{Arg}
use Rattle.game_sheet.specs.declared.args.Arg.TheVariants.{Whole, Text}

-- ---- a rising list by the numbers that it has

below_all : (k least : ℕ) (numbers : List ℕ) → k < least → Rises least numbers → is_among numbers k ≡ false
below_all k least [] less rises = refl
below_all k least (n ∷ numbers) less rises =
    let other : (n == k) ≡ false = ne_eqb n k (λ same. absurd (omega (arith, same, less, rises.0))) in
    ap (λ b. b || is_among numbers k) other ∙ below_all k (n + 1) numbers (omega (arith, less, rises.0)) rises.1

has_first : (n : ℕ) (numbers : List ℕ) → is_among (n ∷ numbers) n ≡ true
has_first n numbers = ap (λ b. b || is_among numbers n) (eq-eqb n n refl)

has_later : (n k : ℕ) (numbers : List ℕ) → n < k → is_among (n ∷ numbers) k ≡ is_among numbers k
has_later n k numbers less = ap (λ b. b || is_among numbers k) (ne_eqb n k (λ same. absurd (omega (arith, same, less))))

module _ (p : ℕ → Bool) where
  -- the numbers of a rising list are those from a least one to before a count that pass, if the list has just these
  abbrev Tells : ℕ → ℕ → List ℕ → Type 0
  Tells least n numbers = (k : ℕ) → least ≤ k → is_among numbers k ≡ (nat_lt k (least + n) && p k)

  fewer : (least n : ℕ) (numbers : List ℕ) → Tells least (suc n) numbers → Tells (least + 1) n numbers
  fewer least n numbers tells k from =
      let same : least + suc n ≡ least + 1 + n = omega arith in
      tells k (omega (arith, from)) ∙ ap (λ m. nat_lt k m && p k) same

  here : (least n : ℕ) (numbers : List ℕ) → Tells least (suc n) numbers → is_among numbers least ≡ p least
  here least n numbers tells = tells least (omega arith) ∙ ap (λ b. b && p least) (lt-ltb least (least + suc n) (omega arith))

  without : (least n : ℕ) (numbers : List ℕ) → Tells (least + 1) n (least ∷ numbers) → Tells (least + 1) n numbers
  without least n numbers tells k from = sym (has_later least k numbers (omega (arith, from))) ∙ tells k from

  chosen : (least : ℕ) (rest numbers : List ℕ) (passes : Bool) → p least ≡ passes → numbers ≡ (if passes then least ∷ rest else rest) → numbers ≡ (if p least then least ∷ rest else rest)
  chosen least rest numbers passes is same = same ∙ ap (λ b. if b then least ∷ rest else rest) (sym is)

  pub rising_kept : (n least : ℕ) (numbers : List ℕ) → Rises least numbers → Tells least n numbers → numbers ≡ filter p (range_with_len least n)
  rising_kept zero least [] rises tells = refl
  rising_kept zero least (m ∷ numbers) rises tells =
      let none : nat_lt m (least + 0) ≡ false = le-ltb m (least + 0) (omega (arith, rises.0)) in
      absurd (false≢true (sym (sym (has_first m numbers) ∙ tells m rises.0 ∙ ap (λ b. b && p m) none)))
  rising_kept (suc n) least [] rises tells =
      chosen least (filter p (range_with_len (least + 1) n)) [] false (sym (here least n [] tells)) (rising_kept n (least + 1) [] tt (fewer least n [] tells))
  rising_kept (suc n) least (m ∷ numbers) rises tells = elim (cases_eq least m) [
    | inl same ↦
        let at_least : Tells least (suc n) (least ∷ numbers) = subst (λ k. Tells least (suc n) (k ∷ numbers)) (sym same) tells in
        let higher : Rises (least + 1) numbers = subst (λ k. Rises (k + 1) numbers) (sym same) rises.1 in
        chosen least (filter p (range_with_len (least + 1) n)) (m ∷ numbers) true (sym (here least n (least ∷ numbers) at_least) ∙ has_first least numbers)
        (ap (λ k. k ∷ numbers) (sym same) ∙ ap (λ ns. least ∷ ns) (rising_kept n (least + 1) numbers higher (without least n numbers (fewer least n (least ∷ numbers) at_least))))
    | inr other ↦
        let above : least < m = omega (arith, rises.0, other) in
        let higher : Rises (least + 1) (m ∷ numbers) = (omega (arith, above), rises.1) in
        chosen least (filter p (range_with_len (least + 1) n)) (m ∷ numbers) false (sym (here least n (m ∷ numbers) tells) ∙ below_all least (least + 1) (m ∷ numbers) (omega arith) higher)
        (rising_kept n (least + 1) (m ∷ numbers) higher (fewer least n (m ∷ numbers) tells))
  ]

-- ---- sorted numbers, each once

abbrev Climbs : ℕ → List ℕ → Type 0
Climbs least [] = Unit {0}
Climbs least (n ∷ numbers) = (least ≤ n) × Climbs n numbers

climbs : (least : ℕ) (numbers : List ℕ) → IsNonDecreasingBy (λ (n : ℕ). n) numbers → ((d : ℕ) → 0 < length numbers → least ≤ get_or numbers 0 d) → Climbs least numbers
climbs least [] sorted first = tt
climbs least (n ∷ numbers) sorted first =
    (first 0 (omega arith), climbs n numbers (λ i j d less below. sorted (suc i) (suc j) d (omega (arith, less)) (omega (arith, below))) (λ d some. sorted 0 1 d (omega arith) (omega (arith, some))))

rises_once : (least k : ℕ) (numbers : List ℕ) → least ≤ k → Climbs k numbers → Rises least (dedup eqb (k ∷ numbers))
rises_once least k [] from up = (from, tt)
rises_once least k (n ∷ numbers) from up = elim (cases_eq n k) [
  | inl same ↦
      let first : Climbs k numbers = subst (λ m. Climbs m numbers) same up.1 in
      subst (λ b. Rises least (cond b (dedup eqb (k ∷ numbers)) (k ∷ dedup eqb (n ∷ numbers)))) (sym (eq-eqb n k same)) (rises_once least k numbers from first)
  | inr other ↦
      subst (λ b. Rises least (cond b (dedup eqb (k ∷ numbers)) (k ∷ dedup eqb (n ∷ numbers)))) (sym (ne_eqb n k other))
      (from, rises_once (k + 1) n numbers (omega (arith, up.0, other)) up.1)
]

or_twice : (a b : Bool) → (a || (a || b)) ≡ (a || b)
or_twice true b = refl
or_twice false b = refl

same_once : (k j : ℕ) (numbers : List ℕ) → is_among (dedup eqb (k ∷ numbers)) j ≡ is_among (k ∷ numbers) j
same_once k j [] = refl
same_once k j (n ∷ numbers) = elim (cases_eq n k) [
  | inl same ↦
      ap (λ b. is_among (cond b (dedup eqb (k ∷ numbers)) (k ∷ dedup eqb (n ∷ numbers))) j) (eq-eqb n k same)
      ∙ same_once k j numbers ∙ sym (or_twice (k == j) (is_among numbers j)) ∙ ap (λ m. (k == j) || ((m == j) || is_among numbers j)) (sym same)
  | inr other ↦
      ap (λ b. is_among (cond b (dedup eqb (k ∷ numbers)) (k ∷ dedup eqb (n ∷ numbers))) j) (ne_eqb n k other)
      ∙ ap (λ b. (k == j) || b) (same_once n j numbers)
]

rises_all : (numbers : List ℕ) → Climbs 0 numbers → Rises 0 (dedup eqb numbers)
rises_all [] up = tt
rises_all (n ∷ numbers) up = rises_once 0 n numbers up.0 up.1

same_all : (numbers : List ℕ) (j : ℕ) → is_among (dedup eqb numbers) j ≡ is_among numbers j
same_all [] j = refl
same_all (n ∷ numbers) j = same_once n j numbers

-- numbers that were sorted rise, each once
pub sorted_rise : (numbers : List ℕ) → IsSorted nat_cmp numbers → Rises 0 (dedup eqb numbers)
sorted_rise numbers sorted = rises_all numbers (climbs 0 numbers (IsNonDecreasingBy-from_sort (λ n. n) numbers sorted) (λ d some. omega arith))

-- and are the same
pub sorted_same : (numbers sorted : List ℕ) → IsPermutation numbers sorted → (n : ℕ) → is_among (dedup eqb sorted) n ≡ is_among numbers n
sorted_same numbers sorted moved n = same_all sorted n ∙ sym (list_any-IsPermutation (λ known. known == n) numbers sorted moved)

-- ---- the numbers of a list

and_false : (b : Bool) → (b && false) ≡ false
and_false true = refl
and_false false = refl

cons_if : (b : Bool) (n : ℕ) (found : List ℕ) → cons_option (if b then Some n else None) found ≡ (if b then n ∷ found else found)
cons_if true n found = refl
cons_if false n found = refl

same_tests : (n k : ℕ) → (leb n k && leb k n) ≡ (n == k)
same_tests n k = elim (cases_order n k) [
  | inl same ↦ and_from (leb n k) (leb k n) (le-leb n k (omega (arith, same))) (le-leb k n (omega (arith, same))) ∙ sym (eq-eqb n k same)
  | inr (inl less) ↦ and_right (leb n k) (leb k n) (lt-leb k n less) ∙ sym (ne_eqb n k (λ same. absurd (omega (arith, same, less))))
  | inr (inr more) ↦ and_left (leb n k) (leb k n) (lt-leb n k more) ∙ sym (ne_eqb n k (λ same. absurd (omega (arith, same, more))))
]

-- it is below the count, where it is this number
then_has : (is below has : Bool) → (is ≡ true → below ≡ true) → (is || (below && has)) ≡ (below && (is || has))
then_has true below has within = sym (ap (λ b. b && true) (within refl))
then_has false below has within = refl

else_has : (is below has : Bool) → (is ≡ true → below ≡ false) → (below && has) ≡ (below && (is || has))
else_has true below has without = ap (λ b. b && has) (without refl) ∙ sym (ap (λ b. b && true) (without refl))
else_has false below has without = refl

whole_listed : (count n k : ℕ) (found : List ℕ) (has : Bool) → is_among found k ≡ (nat_lt k count && has) → is_among (if nat_lt n count then n ∷ found else found) k ≡ (nat_lt k count && ((leb n k && leb k n) || has))
whole_listed count n k found has is = elim (cases_lt n count) [
  | inl below ↦
      ap (λ b. is_among (if b then n ∷ found else found) k) (lt-ltb n count below) ∙ ap (λ b. (n == k) || b) is
      ∙ then_has (n == k) (nat_lt k count) has (λ yes. lt-ltb k count (omega (arith, below, eqb-true n k yes))) ∙ ap (λ b. nat_lt k count && (b || has)) (sym (same_tests n k))
  | inr above ↦
      ap (λ b. is_among (if b then n ∷ found else found) k) (le-ltb n count above) ∙ is
      ∙ else_has (n == k) (nat_lt k count) has (λ yes. le-ltb k count (omega (arith, above, eqb-true n k yes))) ∙ ap (λ b. nat_lt k count && (b || has)) (sym (same_tests n k))
]

pub listed_has : (count k : ℕ) (items : List (Option Arg)) → is_among (filter_map (number_below count) items) k ≡ (nat_lt k count && has_number items k)
listed_has count k [] = sym (and_false (nat_lt k count))
listed_has count k (None ∷ items) = listed_has count k items
listed_has count k (Some (Text text) ∷ items) = listed_has count k items
listed_has count k (Some (Whole (negsuc n)) ∷ items) = listed_has count k items
listed_has count k (Some (Whole (pos n)) ∷ items) =
    let found = filter_map (number_below count) items in
    ap (λ ns. is_among ns k) (cons_if (nat_lt n count) n found) ∙ whole_listed count n k found (has_number items k) (listed_has count k items)

-- the numbers of the rows of a list
pub listed_numbers : (count : ℕ) (items : List (Option Arg)) (found numbers : List ℕ) → found ≡ filter_map (number_below count) items → Rises 0 numbers → ((n : ℕ) → is_among numbers n ≡ is_among found n)
    → numbers ≡ filter (has_number items) (range_with_len 0 count)
listed_numbers count items found numbers is rises same =
    let zero_sum : 0 + count ≡ count = omega arith in
    rising_kept (has_number items) count 0 numbers rises
    (λ k from. same k ∙ ap (λ ns. is_among ns k) is ∙ listed_has count k items ∙ ap (λ m. nat_lt k m && has_number items k) (sym zero_sum))
