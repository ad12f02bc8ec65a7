-- The forms of values, slots and parts keep the laws of forms.
use Rattle.std.proofs.Common.{◌≡◌, ◌&&◌, ◌||◌, ◌==◌, ◌<◌, ◌≤◌, ◌^◌, ℕ, suc, Bool, true, false, if◌then◌else◌, ℤ, pos, negsuc, IsTrue, List, [], ◌∷◌, length, Option, Some, None, option_map, option_and_then, nat_le, nat_lt, refl, ap, ◌∙◌, sym, arith}
use Rattle.std.specs.Prelude.{IfSome, int_le}
use Rattle.std.specs.List.{list_all}
use Rattle.std.specs.Cmp.Lexicographic.{slice_cmp}
use Rattle.std.specs.Ordering.{nat_cmp}
use Rattle.std.specs.Str.{bytes_eq, is_utf8}
use Rattle.std.specs.declared.cmp.Ordering.{Ordering}
use Rattle.std.specs.declared.cmp.Ordering.TheVariants.{Less, Equal, Greater}
use Rattle.std.proofs.lemmas.Bool.{and_from, and_parts, both_ways, eqb-true, le-leb, leb-true, lt-ltb}
use Rattle.std.proofs.lemmas.Slice.Eq.{bytes_eq-Decides}
use Rattle.std.proofs.lemmas.Str.{IsUtf8-from_is_utf8}
use Rattle.game_sheet.specs.Short.{is_plain, is_short}
use Rattle.game_sheet.specs.declared.args.Arg.{Arg}
use Rattle.game_sheet.specs.declared.args.Arg.TheVariants.{Whole, Text}
use Rattle.game_slots.specs.Slots.{SlotLists, argument_fits, slot_fits, slots_fit, value_fits}
use Rattle.game_slots.specs.declared.rows.ItemKind.{ItemKind}
use Rattle.game_slots.specs.declared.rows.ItemKind.TheVariants.{Number as NumberKind, Text as TextKind}
use Rattle.game_slots.specs.declared.rows.SlotRow.{SlotRow}
use Rattle.json_tree.specs.Canonical.{AreAbove, IsCanonical, MembersAreCanonical}
use Rattle.json_tree.specs.Writable.{IsWritable, MembersAreWritable}
use Rattle.json_tree.proofs.Canonicals.{above_more}
use Rattle.open_game.proofs.FormLaws.{list_laws}
use Rattle.open_game.specs.Form.{FormLaws, IsReadFrom}
use Rattle.open_game.specs.Forms.{both, list_of, list_read, list_value}
use Rattle.serde_json.specs.Data.{Data, null, boolean, number, string, array, object, unsigned, negative, float, Members, no_members, member}
use Rattle.serde_json.specs.Written.{has_float, members_have_float}
use Rattle.slot_json.specs.SlotForms.{below_first, first_item, fitting, is_less, is_name_byte, kind_fits, members_read, members_value, most_fits, row_fits, rows_fit, slot_form, slot_read, slot_value, slots_form, slots_read, value_form, value_json, value_read}
use Rattle.slot_json.proofs.NameBytes.{name_utf8}

-- ---- values

value_float_free : (value : Option Arg) → has_float (value_json value) ≡ false
value_float_free None = refl
value_float_free (Some (Whole (pos n))) = refl
value_float_free (Some (Whole (negsuc n))) = refl
value_float_free (Some (Text text)) = refl

fits_back : (row : SlotRow) (value : Option Arg) → value_fits row value ≡ true → fitting row value ≡ Some value
fits_back row value fits = ap (λ b. if b then Some value else None) fits

-- what two bounds say
at_most : (z : ℤ) (n m : ℕ) → int_le (pos n) z ≡ true → int_le z (pos m) ≡ true → n ≤ m
at_most (pos k) n m p q = let low : n ≤ k = leb-true n k p in let high : k ≤ m = leb-true k m q in omega arith
at_most (negsuc k) n m p q = absurd (both_ways false refl p)

at_least : (z : ℤ) (n m : ℕ) → int_le z (negsuc n) ≡ true → int_le (negsuc m) z ≡ true → n ≤ m
at_least (pos k) n m p q = absurd (both_ways false refl p)
at_least (negsuc k) n m p q = let low : n ≤ k = leb-true n k p in let high : k ≤ m = leb-true k m q in omega arith

pub small_number : (kind : ItemKind) (n : ℕ) → kind_fits kind ≡ true → argument_fits kind (Whole (pos n)) ≡ true → n ≤ 2147483647
small_number (NumberKind least greatest) n small fits =
    at_most greatest n 2147483647 (and_parts (int_le least (pos n)) (int_le (pos n) greatest) fits).1 (and_parts (int_le (negsuc 2147483647) least) (int_le greatest (pos 2147483647)) small).1
small_number TextKind n small fits = absurd (cc)

pub small_negative : (kind : ItemKind) (n : ℕ) → kind_fits kind ≡ true → argument_fits kind (Whole (negsuc n)) ≡ true → n ≤ 2147483647
small_negative (NumberKind least greatest) n small fits =
    at_least least n 2147483647 (and_parts (int_le least (negsuc n)) (int_le (negsuc n) greatest) fits).0 (and_parts (int_le (negsuc 2147483647) least) (int_le greatest (pos 2147483647)) small).0
small_negative TextKind n small fits = absurd (cc)

pub short_text : (kind : ItemKind) (text : List ℕ) → argument_fits kind (Text text) ≡ true → is_short text ≡ true
short_text (NumberKind least greatest) text fits = absurd (cc)
short_text TextKind text fits = fits

value_back : (row : SlotRow) → kind_fits row.kind ≡ true → (value : Option Arg) → value_fits row value ≡ true → value_read row (value_json value) ≡ Some value
value_back row small None fits = fits_back row None fits
value_back row small (Some (Whole (pos n))) fits =
    let few : n ≤ 2147483647 = small_number row.kind n small fits in
    let below : n < 2 ^ 63 = omega arith in
    ap (λ b. option_and_then (λ z. fitting row (Some (Whole z))) (if b then Some (pos n) else None)) (lt-ltb n (2 ^ 63) below) ∙ fits_back row (Some (Whole (pos n))) fits
value_back row small (Some (Whole (negsuc n))) fits = fits_back row (Some (Whole (negsuc n))) fits
value_back row small (Some (Text text)) fits = fits_back row (Some (Text text)) fits

value_written : (row : SlotRow) → kind_fits row.kind ≡ true → (value : Option Arg) → value_fits row value ≡ true → IsWritable (value_json value)
value_written row small None fits = tt
value_written row small (Some (Whole (pos n))) fits = let few : n ≤ 2147483647 = small_number row.kind n small fits in omega arith
value_written row small (Some (Whole (negsuc n))) fits = let few : n ≤ 2147483647 = small_negative row.kind n small fits in omega arith
value_written row small (Some (Text text)) fits =
    IsUtf8-from_is_utf8 text (and_parts (nat_le (length text) 64 && is_plain text) (is_utf8 text) (short_text row.kind text fits)).1

fit_reads : (row : SlotRow) (value : Option Arg) (v : Data) (fits : Bool) → value_fits row value ≡ fits → (IsCanonical v → value_json value ≡ v) → IfSome (if fits then Some value else None) (IsReadFrom (value_form row) v)
fit_reads row value v true is same = (is, same)
fit_reads row value v false is same = tt

natural_reads : (row : SlotRow) (n : ℕ) (few : Bool) → IfSome (option_and_then (λ z. fitting row (Some (Whole z))) (if few then Some (pos n) else None)) (IsReadFrom (value_form row) (number (unsigned n)))
natural_reads row n true = fit_reads row (Some (Whole (pos n))) (number (unsigned n)) (value_fits row (Some (Whole (pos n)))) refl (λ c. refl)
natural_reads row n false = tt

value_reads : (row : SlotRow) (v : Data) → IfSome (value_read row v) (IsReadFrom (value_form row) v)
value_reads row null = fit_reads row None null (value_fits row None) refl (λ c. refl)
value_reads row (boolean b) = tt
value_reads row (number (unsigned n)) = natural_reads row n (nat_lt n (2 ^ 63))
value_reads row (number (negative (pos n))) = fit_reads row (Some (Whole (pos n))) (number (negative (pos n))) (value_fits row (Some (Whole (pos n)))) refl (λ c. absurd c)
value_reads row (number (negative (negsuc n))) = fit_reads row (Some (Whole (negsuc n))) (number (negative (negsuc n))) (value_fits row (Some (Whole (negsuc n)))) refl (λ c. refl)
value_reads row (number (float x)) = tt
value_reads row (string text) = fit_reads row (Some (Text text)) (string text) (value_fits row (Some (Text text))) refl (λ c. refl)
value_reads row (array ds) = tt
value_reads row (object ms) = tt

pub value_laws : (row : SlotRow) → kind_fits row.kind ≡ true → FormLaws (value_form row)
value_laws row small = record { float_free = value_float_free; written = value_written row small; reads_back = value_back row small; reads = value_reads row }

-- ---- one slot, where it is told whether it is of one value

abbrev ItemsOf : Type 0
ItemsOf = List (Option Arg)

abbrev pub told_value : Bool → ItemsOf → Data
told_value lone items = if lone then value_json (first_item items) else list_value value_json items

abbrev told_read : Bool → SlotRow → Data → Option ItemsOf
told_read lone row v = if lone then option_map (λ value. value ∷ []) (value_read row v) else list_read 0 row.most (value_read row) v

abbrev pub told_fits : Bool → SlotRow → ItemsOf → Bool
told_fits lone row items = nat_le (if lone then 1 else 0) (length items) && nat_le (length items) row.most && list_all (value_fits row) items

abbrev pub told_most : Bool → SlotRow → Bool
told_most lone row = if lone then row.most == 1 else nat_le 1 row.most

-- a slot of one value has one item, which fits
pub record IsLone (row : SlotRow) (items : ItemsOf) : Type 0 where
  pub is : items ≡ first_item items ∷ []
  pub fits : value_fits row (first_item items) ≡ true

lone_of : (row : SlotRow) (most : ℕ) (items : ItemsOf) → most ≡ 1 → (nat_le 1 (length items) && nat_le (length items) most && list_all (value_fits row) items) ≡ true → IsLone row items
lone_of row most [] one own = absurd (cc)
lone_of row most (x ∷ []) one own =
    let outer = and_parts (nat_le 1 (length (x ∷ [])) && nat_le (length (x ∷ [])) most) (value_fits row x && true) own in
    record { is = refl; fits = (and_parts (value_fits row x) true outer.1).0 }
lone_of row most (x ∷ y ∷ items) one own =
    let outer = and_parts (nat_le 1 (length (x ∷ y ∷ items)) && nat_le (length (x ∷ y ∷ items)) most) (list_all (value_fits row) (x ∷ y ∷ items)) own in
    let inner = and_parts (nat_le 1 (length (x ∷ y ∷ items))) (nat_le (length (x ∷ y ∷ items)) most) outer.0 in
    let few : suc (suc (length items)) ≤ most = leb-true (suc (suc (length items))) most inner.1 in
    absurd (omega arith)

pub is_lone : (row : SlotRow) (items : ItemsOf) → told_most true row ≡ true → told_fits true row items ≡ true → IsLone row items
is_lone row items most own = lone_of row row.most items (eqb-true row.most 1 most) own

module _ (row : SlotRow) (small : kind_fits row.kind ≡ true) where
  abbrev list_form_laws : FormLaws (list_of 0 row.most (value_form row))
  list_form_laws = list_laws (value_form row) (value_laws row small) 0 row.most

  told_float_free : (lone : Bool) (items : ItemsOf) → has_float (told_value lone items) ≡ false
  told_float_free true items = value_float_free (first_item items)
  told_float_free false items = list_form_laws.float_free items

  told_written : (lone : Bool) → told_most lone row ≡ true → (items : ItemsOf) → told_fits lone row items ≡ true → IsWritable (told_value lone items)
  told_written true most items own = value_written row small (first_item items) (is_lone row items most own).fits
  told_written false most items own = list_form_laws.written items own

  told_back : (lone : Bool) → told_most lone row ≡ true → (items : ItemsOf) → told_fits lone row items ≡ true → told_read lone row (told_value lone items) ≡ Some items
  told_back true most items own =
      let one = is_lone row items most own in
      ap (option_map (λ value. value ∷ [])) (value_back row small (first_item items) one.fits) ∙ ap Some (sym one.is)
  told_back false most items own = list_form_laws.reads_back items own

  lone_reads : (v : Data) (o : Option (Option Arg)) → told_most true row ≡ true → IfSome o (IsReadFrom (value_form row) v)
      → IfSome (option_map (λ value. value ∷ []) o) (λ items. IsTrue (told_fits true row items) × (IsCanonical v → told_value true items ≡ v))
  lone_reads v None most is = tt
  lone_reads v (Some x) most is =
      let one : row.most ≡ 1 = eqb-true row.most 1 most in
      let enough : 1 ≤ row.most = omega arith in
      (and_from (nat_le 1 1 && nat_le 1 row.most) (value_fits row x && true) (le-leb 1 row.most enough) (and_from (value_fits row x) true is.0 refl), is.1)

  told_reads : (lone : Bool) → told_most lone row ≡ true → (v : Data) → IfSome (told_read lone row v) (λ items. IsTrue (told_fits lone row items) × (IsCanonical v → told_value lone items ≡ v))
  told_reads true most v = lone_reads v (value_read row v) most (value_reads row v)
  told_reads false most v = list_form_laws.reads v

pub slot_laws : (row : SlotRow) → row_fits row ≡ true → FormLaws (slot_form row)
slot_laws row fits =
    let parts = and_parts (kind_fits row.kind) (most_fits row) fits in
    record {
      float_free = told_float_free row parts.0 row.lone;
      written = told_written row parts.0 row.lone parts.1;
      reads_back = told_back row parts.0 row.lone parts.1;
      reads = told_reads row parts.0 row.lone parts.1;
    }

-- ---- the slots of a part

-- what holds of the first name and row, and of the rest
pub record RowParts (name : List ℕ) (names : List (List ℕ)) (row : SlotRow) (rows : List SlotRow) : Type 0 where
  pub named : list_all is_name_byte name ≡ true
  pub below : below_first name names ≡ true
  pub fits : row_fits row ≡ true
  pub rest : rows_fit names rows ≡ true

pub row_parts : (name : List ℕ) (names : List (List ℕ)) (row : SlotRow) (rows : List SlotRow) → rows_fit (name ∷ names) (row ∷ rows) ≡ true → RowParts name names row rows
row_parts name names row rows fit =
    let outer = and_parts (list_all is_name_byte name && below_first name names && row_fits row) (rows_fit names rows) fit in
    let inner = and_parts (list_all is_name_byte name && below_first name names) (row_fits row) outer.0 in
    let first = and_parts (list_all is_name_byte name) (below_first name names) inner.0 in
    record { named = first.0; below = first.1; fits = inner.1; rest = outer.1 }

members_float_free : (names : List (List ℕ)) (rows : List SlotRow) (slots : SlotLists) → rows_fit names rows ≡ true → members_have_float (members_value names rows slots) ≡ false
members_float_free [] rows slots fit = refl
members_float_free (name ∷ names) [] slots fit = refl
members_float_free (name ∷ names) (row ∷ rows) [] fit = refl
members_float_free (name ∷ names) (row ∷ rows) (items ∷ slots) fit =
    let parts = row_parts name names row rows fit in
    ap (λ has. has || members_have_float (members_value names rows slots)) ((slot_laws row parts.fits).float_free items) ∙ members_float_free names rows slots parts.rest

less_is : (o : Ordering) → is_less o ≡ true → o ≡ Less
less_is Less is = refl
less_is Equal is = absurd (cc)
less_is Greater is = absurd (cc)

-- a name below the first stands below all
pub above : (name : List ℕ) (names : List (List ℕ)) (rows : List SlotRow) (slots : SlotLists) → below_first name names ≡ true → rows_fit names rows ≡ true → AreAbove name (members_value names rows slots)
above name [] rows slots is fit = tt
above name (next ∷ names) [] slots is fit = tt
above name (next ∷ names) (row ∷ rows) [] is fit = tt
above name (next ∷ names) (row ∷ rows) (items ∷ slots) is fit =
    let parts = row_parts next names row rows fit in
    let less = less_is (slice_cmp nat_cmp name next) is in
    (less, above_more name next (members_value names rows slots) less (above next names rows slots parts.below parts.rest))

members_written : (names : List (List ℕ)) (rows : List SlotRow) (slots : SlotLists) → rows_fit names rows ≡ true → slots_fit rows slots ≡ true → MembersAreWritable (members_value names rows slots)
members_written [] rows slots fit own = tt
members_written (name ∷ names) [] slots fit own = tt
members_written (name ∷ names) (row ∷ rows) [] fit own = tt
members_written (name ∷ names) (row ∷ rows) (items ∷ slots) fit own =
    let parts = row_parts name names row rows fit in
    let owns = and_parts (slot_fits row items) (slots_fit rows slots) own in
    (above name names rows slots parts.below parts.rest, (slot_laws row parts.fits).written items owns.0, members_written names rows slots parts.rest owns.1, name_utf8 name parts.named)

members_back : (names : List (List ℕ)) (rows : List SlotRow) (slots : SlotLists) → rows_fit names rows ≡ true → slots_fit rows slots ≡ true → members_read names rows (members_value names rows slots) ≡ Some slots
members_back [] [] [] fit own = refl
members_back [] [] (items ∷ slots) fit own = absurd (cc)
members_back [] (row ∷ rows) slots fit own = absurd (cc)
members_back (name ∷ names) [] slots fit own = absurd (cc)
members_back (name ∷ names) (row ∷ rows) [] fit own = absurd (cc)
members_back (name ∷ names) (row ∷ rows) (items ∷ slots) fit own =
    let parts = row_parts name names row rows fit in
    let owns = and_parts (slot_fits row items) (slots_fit rows slots) own in
    ap (λ b. if b then both (λ items slots. items ∷ slots) (slot_read row (slot_value row items)) (members_read names rows (members_value names rows slots)) else None) ((bytes_eq-Decides name name).1 refl)
    ∙ ap (λ o. both (λ items slots. items ∷ slots) o (members_read names rows (members_value names rows slots))) ((slot_laws row parts.fits).reads_back items owns.0)
    ∙ ap (both (λ items slots. items ∷ slots) (Some items)) (members_back names rows slots parts.rest owns.1)

-- what members that are read are
abbrev AreRead : List (List ℕ) → List SlotRow → Members → SlotLists → Type 0
AreRead names rows ms slots = (slots_fit rows slots ≡ true) × (MembersAreCanonical ms → members_value names rows slots ≡ ms)

one_read : (name : List ℕ) (names : List (List ℕ)) (row : SlotRow) (rows : List SlotRow) (k : List ℕ) (d : Data) (ms : Members) (same : Bool) (first : Option ItemsOf) (rest : Option SlotLists)
    → bytes_eq k name ≡ same → IfSome first (IsReadFrom (slot_form row) d) → IfSome rest (AreRead names rows ms)
    → IfSome (if same then both (λ items slots. items ∷ slots) first rest else None) (AreRead (name ∷ names) (row ∷ rows) (member k d ms))
one_read name names row rows k d ms false first rest is one more = tt
one_read name names row rows k d ms true None rest is one more = tt
one_read name names row rows k d ms true (Some items) None is one more = tt
one_read name names row rows k d ms true (Some items) (Some slots) is one more =
    let named : k ≡ name = (bytes_eq-Decides k name).0 is in (
      and_from (slot_fits row items) (slots_fit rows slots) one.0 more.0,
      λ c. ap (λ n. member n (slot_value row items) (members_value names rows slots)) (sym named) ∙ ap (λ e. member k e (members_value names rows slots)) (one.1 c.1) ∙ ap (member k d) (more.1 c.2),
    )

members_are_read : (names : List (List ℕ)) (rows : List SlotRow) (ms : Members) → rows_fit names rows ≡ true → IfSome (members_read names rows ms) (AreRead names rows ms)
members_are_read [] [] no_members fit = (refl, λ c. refl)
members_are_read [] [] (member k d ms) fit = tt
members_are_read [] (row ∷ rows) ms fit = tt
members_are_read (name ∷ names) [] ms fit = tt
members_are_read (name ∷ names) (row ∷ rows) no_members fit = tt
members_are_read (name ∷ names) (row ∷ rows) (member k d ms) fit =
    let parts = row_parts name names row rows fit in
    one_read name names row rows k d ms (bytes_eq k name) (slot_read row d) (members_read names rows ms) refl ((slot_laws row parts.fits).reads d) (members_are_read names rows ms parts.rest)

read_object : (names : List (List ℕ)) (rows : List SlotRow) (ms : Members) (o : Option SlotLists) → IfSome o (AreRead names rows ms) → IfSome o (IsReadFrom (slots_form names rows) (object ms))
read_object names rows ms None is = tt
read_object names rows ms (Some slots) is = (is.0, λ c. ap object (is.1 c))

slots_are_read : (names : List (List ℕ)) (rows : List SlotRow) → rows_fit names rows ≡ true → (v : Data) → IfSome (slots_read names rows v) (IsReadFrom (slots_form names rows) v)
slots_are_read names rows fit null = tt
slots_are_read names rows fit (boolean b) = tt
slots_are_read names rows fit (number n) = tt
slots_are_read names rows fit (string s) = tt
slots_are_read names rows fit (array ds) = tt
slots_are_read names rows fit (object ms) = read_object names rows ms (members_read names rows ms) (members_are_read names rows ms fit)

pub slots_laws : (names : List (List ℕ)) (rows : List SlotRow) → rows_fit names rows ≡ true → FormLaws (slots_form names rows)
slots_laws names rows fit = record {
  float_free = λ slots. members_float_free names rows slots fit;
  written = λ slots own. members_written names rows slots fit own;
  reads_back = λ slots own. members_back names rows slots fit own;
  reads = slots_are_read names rows fit;
}
