-- What is done to a slot leaves it within its row.
use Rattle.std.specs.Prelude.{◌≡◌, ◌+◌, ◌<◌, ◌≤◌, ◌&&◌, ℕ, zero, suc, Bool, true, false, if◌then◌else◌, nat_le, nat_lt, ℤ, pos, negsuc, IfSome, List, [], ◌∷◌, ◌++◌, length, take, drop, remove, replicate, slice_get, slice_set, slice_index_or, swap, Option, Some, None, refl}
use Rattle.std.proofs.Common.{ap, ◌∙◌, sym, subst, arith, length-append}
use Rattle.std.proofs.lemmas.Bool.{and_from, and_parts, le-leb, leb-true, ltb-true}
use Rattle.std.proofs.lemmas.List.{length-set, length-replicate}
use Rattle.std.proofs.lemmas.List.Edits.{length-remove}
use Rattle.std.proofs.lemmas.List.Folds.{list_all-append}
use Rattle.std.specs.List.{list_all}
use Rattle.std.specs.Option.{option_map_or}
use Rattle.game_sheet.specs.declared.args.Arg.{Arg}
use Rattle.game_slots.specs.Slots.{SlotLists, changed, least_items, place_in, slot_fits, slots_changed, slots_fit, swapped, value_fits}
use Rattle.game_slots.specs.declared.rows.Change.{Change}
use Rattle.game_slots.specs.declared.rows.Change.TheVariants.{Set, Push, Remove, Clear, Fill, Swap}
use Rattle.game_slots.specs.declared.rows.SlotRow.{SlotRow}

abbrev Values : Type 0
Values = List (Option Arg)

-- what a slot's row says: how many items, and each of them
record Fits (row : SlotRow) (items : Values) : Type 0 where
  few : least_items row ≤ length items
  many : length items ≤ row.most
  each : list_all (value_fits row) items ≡ true

fits_of : (row : SlotRow) (items : Values) → slot_fits row items ≡ true → Fits row items
fits_of row items is =
    let outer = and_parts (nat_le (least_items row) (length items) && nat_le (length items) row.most) (list_all (value_fits row) items) is in
    let inner = and_parts (nat_le (least_items row) (length items)) (nat_le (length items) row.most) outer.0 in
    record { few = leb-true (least_items row) (length items) inner.0; many = leb-true (length items) row.most inner.1; each = outer.1 }

of_fits : (row : SlotRow) (items : Values) → Fits row items → slot_fits row items ≡ true
of_fits row items is = and_from (nat_le (least_items row) (length items) && nat_le (length items) row.most) (list_all (value_fits row) items)
    (and_from (nat_le (least_items row) (length items)) (nat_le (length items) row.most) (le-leb (least_items row) (length items) is.few) (le-leb (length items) row.most is.many)) is.each

-- as many items, each of which fits
alike_fits : (row : SlotRow) (items after : Values) → Fits row items → length after ≡ length items → list_all (value_fits row) after ≡ true → slot_fits row after ≡ true
alike_fits row items after fits same each = of_fits row after (record { few = omega (arith, fits.few, same); many = omega (arith, fits.many, same); each = each })

pub all_set : {A : Type 0} (test : A → Bool) (xs : List A) (place : ℕ) (x : A) → test x ≡ true → list_all test xs ≡ true → list_all test (slice_set xs place x) ≡ true
all_set test [] place x fit all = refl
all_set test (y ∷ xs) zero x fit all = and_from (test x) (list_all test xs) fit (and_parts (test y) (list_all test xs) all).1
all_set test (y ∷ xs) (suc place) x fit all =
    let parts = and_parts (test y) (list_all test xs) all in
    and_from (test y) (list_all test (slice_set xs place x)) parts.0 (all_set test xs place x fit parts.1)

all_taken : {A : Type 0} (test : A → Bool) (n : ℕ) (xs : List A) → list_all test xs ≡ true → list_all test (take n xs) ≡ true
all_taken test zero xs all = refl
all_taken test (suc n) [] all = refl
all_taken test (suc n) (y ∷ xs) all =
    let parts = and_parts (test y) (list_all test xs) all in
    and_from (test y) (list_all test (take n xs)) parts.0 (all_taken test n xs parts.1)

all_dropped : {A : Type 0} (test : A → Bool) (n : ℕ) (xs : List A) → list_all test xs ≡ true → list_all test (drop n xs) ≡ true
all_dropped test zero xs all = all
all_dropped test (suc n) [] all = refl
all_dropped test (suc n) (y ∷ xs) all = all_dropped test n xs (and_parts (test y) (list_all test xs) all).1

all_removed : {A : Type 0} (test : A → Bool) (xs : List A) (place : ℕ) → list_all test xs ≡ true → list_all test (remove xs place) ≡ true
all_removed test xs place all =
    list_all-append test (take place xs) (drop (suc place) xs)
    ∙ and_from (list_all test (take place xs)) (list_all test (drop (suc place) xs)) (all_taken test place xs all) (all_dropped test (suc place) xs all)

all_replicated : {A : Type 0} (test : A → Bool) (n : ℕ) (x : A) → test x ≡ true → list_all test (replicate n x) ≡ true
all_replicated test zero x fit = refl
all_replicated test (suc n) x fit = and_from (test x) (list_all test (replicate n x)) fit (all_replicated test n x fit)

all_at : {A : Type 0} (test : A → Bool) (xs : List A) (place : ℕ) (d : A) → test d ≡ true → list_all test xs ≡ true → test (slice_index_or xs place d) ≡ true
all_at test [] place d fit all = fit
all_at test (y ∷ xs) zero d fit all = (and_parts (test y) (list_all test xs) all).0
all_at test (y ∷ xs) (suc place) d fit all = all_at test xs place d fit (and_parts (test y) (list_all test xs) all).1

all_swapped : {A : Type 0} (test : A → Bool) (xs : List A) (i j : ℕ) → list_all test xs ≡ true → list_all test (swap xs i j) ≡ true
all_swapped test [] i j all = refl
all_swapped test (d ∷ xs) i j all =
    let head = (and_parts (test d) (list_all test xs) all).0 in
    let one = slice_index_or (d ∷ xs) j d in
    let other = slice_index_or (d ∷ xs) i d in
    all_set test (slice_set (d ∷ xs) i one) j other (all_at test (d ∷ xs) i d head all) (all_set test (d ∷ xs) i one (all_at test (d ∷ xs) j d head all) all)

length_swapped : {A : Type 0} (xs : List A) (i j : ℕ) → length (swap xs i j) ≡ length xs
length_swapped [] i j = refl
length_swapped (d ∷ xs) i j =
    let one = slice_index_or (d ∷ xs) j d in
    length-set (slice_set (d ∷ xs) i one) j (slice_index_or (d ∷ xs) i d) ∙ length-set (d ∷ xs) i one

module _ (row : SlotRow) (items : Values) (is : slot_fits row items ≡ true) where
  set_at : (value : Option Arg) (fit : Bool) (place : ℕ) → value_fits row value ≡ fit → slot_fits row (if fit then slice_set items place value else items) ≡ true
  set_at value false place tested = is
  set_at value true place tested =
      let fits = fits_of row items is in
      alike_fits row items (slice_set items place value) fits (length-set items place value) (all_set (value_fits row) items place value tested fits.each)

  set_in : (value : Option Arg) (place : Option ℕ) → slot_fits row (option_map_or (λ place. if value_fits row value then slice_set items place value else items) place items) ≡ true
  set_in value None = is
  set_in value (Some place) = set_at value (value_fits row value) place refl

  pushed : (value : Option Arg) (fit room : Bool) → value_fits row value ≡ fit → nat_lt (length items) row.most ≡ room → slot_fits row (if room && fit then items ++ value ∷ [] else items) ≡ true
  pushed value fit false tested has = is
  pushed value false true tested has = is
  pushed value true true tested has =
      let fits = fits_of row items is in
      let below : length items < row.most = ltb-true (length items) row.most has in
      let more : length (items ++ value ∷ []) ≡ length items + 1 = length-append items (value ∷ []) in
      of_fits row (items ++ value ∷ []) (record {
        few = omega (arith, fits.few, more);
        many = omega (arith, below, more);
        each = list_all-append (value_fits row) items (value ∷ []) ∙ and_from (list_all (value_fits row) items) (value_fits row value && true) fits.each (and_from (value_fits row value) true tested refl);
      })

  removed_at : (place : ℕ) (room : Bool) → place < length items → nat_lt (least_items row) (length items) ≡ room → slot_fits row (if room then remove items place else items) ≡ true
  removed_at place false below has = is
  removed_at place true below has =
      let fits = fits_of row items is in
      let more : least_items row < length items = ltb-true (least_items row) (length items) has in
      let less : length (remove items place) + 1 ≡ length items = length-remove items place below in
      of_fits row (remove items place) (record { few = omega (arith, more, less); many = omega (arith, fits.many, less); each = all_removed (value_fits row) items place fits.each })

  removed_in : (place : Option ℕ) → IfSome place (λ n. n < length items) → slot_fits row (option_map_or (λ place. if nat_lt (least_items row) (length items) then remove items place else items) place items) ≡ true
  removed_in None below = is
  removed_in (Some place) below = removed_at place (nat_lt (least_items row) (length items)) below refl

  filled : (value : Option Arg) (fit : Bool) → value_fits row value ≡ fit → slot_fits row (if fit then replicate (length items) value else items) ≡ true
  filled value false tested = is
  filled value true tested =
      alike_fits row items (replicate (length items) value) (fits_of row items is) (length-replicate (length items) value) (all_replicated (value_fits row) (length items) value tested)

  swapped_in : (one other : Option ℕ) → slot_fits row (swapped items one other) ≡ true
  swapped_in None other = is
  swapped_in (Some i) None = is
  swapped_in (Some i) (Some j) =
      let fits = fits_of row items is in
      alike_fits row items (swap items i j) fits (length_swapped items i j) (all_swapped (value_fits row) items i j fits.each)

least_if : (lone : Bool) → (if lone then 1 else 0) ≤ 1
least_if true = omega arith
least_if false = omega arith

cleared : (row : SlotRow) (items : Values) (lone : Bool) → row.lone ≡ lone → slot_fits row items ≡ true → slot_fits row (if lone then items else []) ≡ true
cleared row items true has is = is
cleared row items false has is =
    let none : least_items row ≡ 0 = ap (λ b. if b then 1 else 0) has in
    of_fits row [] (record { few = omega (arith, none); many = omega arith; each = refl })

below_if : (n count : ℕ) (test : Bool) → nat_lt n count ≡ test → IfSome (if test then Some n else None) (λ n. n < count)
below_if n count false is = tt
below_if n count true is = ltb-true n count is

in_place : (at : Option ℤ) (count : ℕ) → IfSome (place_in at count) (λ n. n < count)
in_place None count = tt
in_place (Some (pos n)) count = below_if n count (nat_lt n count) refl
in_place (Some (negsuc n)) count = tt

-- what is done to a slot leaves it within its row
changed_fits : (row : SlotRow) (change : Change) (items : Values) → slot_fits row items ≡ true → slot_fits row (changed row change items) ≡ true
changed_fits row (Set at value) items is = set_in row items is value (place_in at (length items))
changed_fits row (Push value) items is = pushed row items is value (value_fits row value) (nat_lt (length items) row.most) refl refl
changed_fits row (Remove at) items is = removed_in row items is (place_in at (length items)) (in_place at (length items))
changed_fits row Clear items is = cleared row items row.lone refl is
changed_fits row (Fill value) items is = filled row items is value (value_fits row value) refl
changed_fits row (Swap one other) items is = swapped_in row items is (place_in one (length items)) (place_in other (length items))

-- ---- the slots of one part

slots_kept : (rows : List SlotRow) (slots : SlotLists) (slot : ℕ) (row : SlotRow) (items after : Values) → slice_get rows slot ≡ Some row → slice_get slots slot ≡ Some items
    → (slot_fits row items ≡ true → slot_fits row after ≡ true) → slots_fit rows slots ≡ true → slots_fit rows (slice_set slots slot after) ≡ true
slots_kept [] slots slot row items after at in_slots keeps is = absurd (cc)
slots_kept (r ∷ rows) [] slot row items after at in_slots keeps is = absurd (cc)
slots_kept (r ∷ rows) (c ∷ slots) zero row items after at in_slots keeps is =
    let parts = and_parts (slot_fits r c) (slots_fit rows slots) is in
    let same : r ≡ row = cc in
    let held : c ≡ items = cc in
    and_from (slot_fits r after) (slots_fit rows slots) (subst (λ x. slot_fits x after ≡ true) (sym same) (keeps (subst (λ x. slot_fits x items ≡ true) same (subst (λ x. slot_fits r x ≡ true) held parts.0)))) parts.1
slots_kept (r ∷ rows) (c ∷ slots) (suc slot) row items after at in_slots keeps is =
    let parts = and_parts (slot_fits r c) (slots_fit rows slots) is in
    and_from (slot_fits r c) (slots_fit rows (slice_set slots slot after)) parts.0 (slots_kept rows slots slot row items after at in_slots keeps parts.1)

slots_changed_at : (rows : List SlotRow) (slot : ℕ) (change : Change) (slots : SlotLists) (row : Option SlotRow) (items : Option Values) → slice_get rows slot ≡ row → slice_get slots slot ≡ items → slots_fit rows slots ≡ true
    → slots_fit rows (option_map_or (λ row. option_map_or (λ items. slice_set slots slot (changed row change items)) items slots) row slots) ≡ true
slots_changed_at rows slot change slots None items at held is = is
slots_changed_at rows slot change slots (Some row) None at held is = is
slots_changed_at rows slot change slots (Some row) (Some items) at held is = slots_kept rows slots slot row items (changed row change items) at held (changed_fits row change items) is

pub slots_changed_fits : (rows : List SlotRow) (slot : ℕ) (change : Change) (slots : SlotLists) → slots_fit rows slots ≡ true → slots_fit rows (slots_changed rows slot change slots) ≡ true
slots_changed_fits rows slot change slots is = slots_changed_at rows slot change slots (slice_get rows slot) (slice_get slots slot) refl refl is
