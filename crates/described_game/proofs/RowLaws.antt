-- The rows of ranges by their numbers are all rows in order.
use Rattle.std.proofs.Common.{◌≡◌, ℕ, zero, suc, ◌+◌, ◌*◌, ◌%◌, ◌<◌, List, [], ◌∷◌, ◌++◌, map, refl, ap, ◌∙◌, sym, arith, add_comm, suc-mul, zero-mul}
use Rattle.std.proofs.lemmas.List.{map-append}
use Rattle.std.proofs.lemmas.Nat.{div-mul-add, mod-mul-add}
use Rattle.std.specs.List.{flat_map, range_with_len}
use Rattle.std.specs.Option.{option_to_list}
use Rattle.described_game.specs.Offers.{capped, range_count, range_item, range_row, range_rows, rows_count}
use Rattle.described_game.specs.declared.parts.NumberRange.{NumberRange}
use Rattle.game_sheet.specs.declared.args.Arg.{Arg}

-- ---- numbers in a row

range_append : (first m n : ℕ) → range_with_len first (m + n) ≡ range_with_len first m ++ range_with_len (first + m) n
range_append first zero n =
    let none : zero + n ≡ n = omega arith in
    let same : first + zero ≡ first = omega arith in
    ap (range_with_len first) none ∙ ap (λ k. range_with_len k n) (sym same)
range_append first (suc m) n =
    let more : suc m + n ≡ suc (m + n) = omega arith in
    let same : first + 1 + m ≡ first + suc m = omega arith in
    ap (range_with_len first) more ∙ ap (λ ks. first ∷ ks) (range_append (first + 1) m n ∙ ap (λ k. range_with_len (first + 1) m ++ range_with_len k n) same)

module _ {X : Type 0} where
  agree_on : (f g : ℕ → X) (first n : ℕ) → ((k : ℕ) → k < first + n → f k ≡ g k) → map f (range_with_len first n) ≡ map g (range_with_len first n)
  agree_on f g first zero same = refl
  agree_on f g first (suc n) same =
      ap (λ x. x ∷ map f (range_with_len (first + 1) n)) (same first (omega arith)) ∙ ap (λ xs. g first ∷ xs) (agree_on f g (first + 1) n (λ k below. same k (omega (arith, below))))

  shifted : (f : ℕ → X) (by first n : ℕ) → map f (range_with_len (by + first) n) ≡ map (λ k. f (by + k)) (range_with_len first n)
  shifted f by first zero = refl
  shifted f by first (suc n) =
      let next : by + first + 1 ≡ by + (first + 1) = omega arith in
      ap (λ xs. f (by + first) ∷ xs) (ap (λ k. map f (range_with_len k n)) next ∙ shifted f by (first + 1) n)

  -- the numbers of rows of so many, row by row
  abbrev in_rows : (ℕ → X) → ℕ → ℕ → ℕ → List X
  in_rows f columns first rows = flat_map (λ n. map (λ k. f (n * columns + k)) (range_with_len 0 columns)) (range_with_len first rows)

  by_rows : (f : ℕ → X) (columns first rows : ℕ) → map f (range_with_len (first * columns) (rows * columns)) ≡ in_rows f columns first rows
  by_rows f columns first zero = ap (λ n. map f (range_with_len (first * columns) n)) (zero-mul columns)
  by_rows f columns first (suc rows) =
      let more : suc rows * columns ≡ columns + rows * columns = suc-mul rows columns ∙ add_comm (rows * columns) columns in
      let one : first + 1 ≡ suc first = omega arith in
      let next : first * columns + columns ≡ (first + 1) * columns = sym (ap (λ n. n * columns) one ∙ suc-mul first columns) in
      let start : first * columns ≡ first * columns + 0 = omega arith in
      ap (λ n. map f (range_with_len (first * columns) n)) more ∙ ap (map f) (range_append (first * columns) columns (rows * columns))
      ∙ map-append f (range_with_len (first * columns) columns) (range_with_len (first * columns + columns) (rows * columns))
      ∙ ap (λ xs. xs ++ map f (range_with_len (first * columns + columns) (rows * columns))) (ap (λ k. map f (range_with_len k columns)) start ∙ shifted f (first * columns) 0 columns)
      ∙ ap (λ xs. map (λ k. f (first * columns + k)) (range_with_len 0 columns) ++ xs) (ap (λ k. map f (range_with_len k (rows * columns))) next ∙ by_rows f columns (first + 1) rows)

map_twice : {X Y Z : Type 0} (g : Y → Z) (f : X → Y) (xs : List X) → map g (map f xs) ≡ map (λ x. g (f x)) xs
map_twice g f [] = refl
map_twice g f (x ∷ xs) = ap (λ zs. g (f x) ∷ zs) (map_twice g f xs)

flat_agree : {X Y : Type 0} (f g : X → List Y) → ((x : X) → f x ≡ g x) → (xs : List X) → flat_map f xs ≡ flat_map g xs
flat_agree f g same [] = refl
flat_agree f g same (x ∷ xs) = ap (λ ys. ys ++ flat_map f xs) (same x) ∙ ap (λ ys. g x ++ ys) (flat_agree f g same xs)

-- ---- rows of ranges

abbrev Rows : Type 0
Rows = List (List Arg)

-- a row with a number of the first range before it
abbrev begun : NumberRange → ℕ → List Arg → List Arg
begun range n row = option_to_list (range_item range n) ++ row

row_in : (range : NumberRange) (ranges : List NumberRange) (n k : ℕ) → k < rows_count ranges → range_row (range ∷ ranges) (n * rows_count ranges + k) ≡ begun range n (range_row ranges k)
row_in range ranges n k below =
    ap (λ q. begun range q (range_row ranges ((n * rows_count ranges + k) % rows_count ranges))) (div-mul-add n (rows_count ranges) k below)
    ∙ ap (λ r. begun range n (range_row ranges r)) (mod-mul-add n (rows_count ranges) k below)

one_number : (range : NumberRange) (ranges : List NumberRange) (n : ℕ) → map (range_row ranges) (range_with_len 0 (rows_count ranges)) ≡ range_rows ranges
    → map (λ k. range_row (range ∷ ranges) (n * rows_count ranges + k)) (range_with_len 0 (rows_count ranges)) ≡ map (begun range n) (range_rows ranges)
one_number range ranges n known =
    agree_on (λ k. range_row (range ∷ ranges) (n * rows_count ranges + k)) (λ k. begun range n (range_row ranges k)) 0 (rows_count ranges) (λ k below. row_in range ranges n k (omega (arith, below)))
    ∙ sym (map_twice (begun range n) (range_row ranges) (range_with_len 0 (rows_count ranges))) ∙ ap (map (begun range n)) known

below_all : (a c : ℕ) → capped (suc a * c) < 2147483648 → c < 2147483648
below_all a c few = let more : suc a * c ≡ a * c + c = suc-mul a c in omega (arith, few, more)

not_capped : (n : ℕ) → capped n < 2147483648 → capped n ≡ n
not_capped n few = omega (arith, few)

rows_so : (range : NumberRange) (ranges : List NumberRange) (count : ℕ) → range_count range ≡ count → capped (count * rows_count ranges) < 2147483648
    → (rows_count ranges < 2147483648 → map (range_row ranges) (range_with_len 0 (rows_count ranges)) ≡ range_rows ranges)
    → map (range_row (range ∷ ranges)) (range_with_len 0 (capped (count * rows_count ranges))) ≡ flat_map (λ n. map (begun range n) (range_rows ranges)) (range_with_len 0 count)
rows_so range ranges zero is few known = ap (λ n. map (range_row (range ∷ ranges)) (range_with_len 0 (capped n))) (zero-mul (rows_count ranges))
rows_so range ranges (suc count) is few known =
    let rest = known (below_all count (rows_count ranges) few) in
    let start : 0 ≡ 0 * rows_count ranges = sym (zero-mul (rows_count ranges)) in
    ap (λ n. map (range_row (range ∷ ranges)) (range_with_len 0 n)) (not_capped (suc count * rows_count ranges) few)
    ∙ ap (λ k. map (range_row (range ∷ ranges)) (range_with_len k (suc count * rows_count ranges))) start
    ∙ by_rows (range_row (range ∷ ranges)) (rows_count ranges) 0 (suc count)
    ∙ flat_agree (λ n. map (λ k. range_row (range ∷ ranges) (n * rows_count ranges + k)) (range_with_len 0 (rows_count ranges))) (λ n. map (begun range n) (range_rows ranges)) (λ n. one_number range ranges n rest) (range_with_len 0 (suc count))

-- the rows by their numbers are all rows in order
pub all_rows : (ranges : List NumberRange) → rows_count ranges < 2147483648 → map (range_row ranges) (range_with_len 0 (rows_count ranges)) ≡ range_rows ranges
all_rows [] few = refl
all_rows (range ∷ ranges) few = rows_so range ranges (range_count range) refl few (all_rows ranges)
