-- Objects read back from their compact text where each of their values does.
use Rattle.std.proofs.Common.{◌≡◌, ◌<◌, ◌≤◌, ◌^◌, ℕ, suc, pos, negsuc, Ordering, Less, Equal, Greater, ◌&&◌, Bool, ◌==◌, true, false, cond, drop, get_or, decimal, List, [], ◌∷◌, ◌++◌, Some, option_map, option_and_then, IsUtf8, refl, sym, ap, ◌∙◌, subst, arith, append-nil}
use Rattle.std.proofs.lemmas.Bool.{or_parts, and_parts, ne_eqb}
use Rattle.std.proofs.lemmas.Fmt.{first_decimal}
use Rattle.std.proofs.lemmas.Str.{IsUtf8-append}
use Rattle.std.specs.Ordering.{nat_cmp}
use Rattle.std.specs.Cmp.Lexicographic.{slice_cmp}
use Rattle.json.specs.Json as json
use Rattle.json.specs.Lex.{tokens}
use Rattle.json.specs.Print.{quoted}
use Rattle.json.specs.Word.{head, after_whole, after_fraction, after_exponent, after_number}
use Rattle.json.specs.Tree as tree
use Rattle.json.proofs.Printed.Decimals.{IsNumber-decimal}
use Rattle.json.proofs.Printed.Tokens.{tokens-print}
use Rattle.json.proofs.Printed.Trees.{value-json_tokens, ArePrintable-json_tokens}
use Rattle.json.proofs.Printed.Utf8.{are_ascii, IsUtf8-are_ascii, IsUtf8-quoted}
use Rattle.serde_json.specs.Data.{Num, unsigned, negative, float, Data, null, boolean, number, string, array, object, Items, no_items, item, Members, no_members, member, put, depth, members_depth}
use Rattle.serde_json.specs.Read.{number_of, of_json, of_items, of_members, read, max_depth}
use Rattle.serde_json.specs.Find.{is_float}
use Rattle.serde_json.specs.Written.{number_text, outline, items_outline, members_outline, compact_text, members_text, comma_if, has_float, items_have_float, members_have_float}
use Rattle.serde_json.proofs.Numbers.{number_of-decimal, number_of-negative}
use Rattle.serde_json.proofs.Texts.{print-outline}
use Rattle.json_tree.specs.Canonical.{AreAbove, IsCanonical, ItemsAreCanonical, MembersAreCanonical}
use Rattle.json_tree.specs.Writable.{IsWritable}
use Rattle.json_tree.proofs.Canonicals.{canonical_read}
use Rattle.json_back.specs.Told.{IsTold, MembersAreTold, AreTold}
use Rattle.json_back.proofs.Ranges.{IsInRange, HasRange, ItemsHaveRange, MembersHaveRange, read_range}
use Rattle.json_back.proofs.Texts.{before, comma_utf8, written_utf8, whole}
use Rattle.json_back.proofs.Written.{AllBefore, push, joined, put_last, before_push, joined_none, joined_push, data_again, printable, as_deep}

-- ---- what was read is told

number_told : (n : Num) → IsInRange n → is_float n ≡ false → number_of (number_text n) ≡ Some n
number_told (unsigned n) h f = number_of-decimal n h
number_told (negative (pos n)) h f = absurd h
number_told (negative (negsuc n)) h f = number_of-negative n h
number_told (float x) h f = absurd (cc)

no_minus : (ds : List ℕ) → 48 < get_or ds 0 0 → (head ds == 45) ≡ false
no_minus [] h = absurd (omega arith)
no_minus (d ∷ ds) h = ne_eqb d 45 (λ e. absurd (omega arith))

negative_stands : (n : ℕ) → suc n < 2 ^ 64 → tree.HasNumbers (json.number (45 ∷ decimal (suc n)))
unfolding after_number
negative_stands n h =
    let digits = decimal (suc n) in
    sym (ap (λ b. option_and_then after_exponent (option_and_then after_fraction (after_whole (cond b (drop 1 digits) digits)))) (no_minus digits (first_decimal (suc n) (omega arith) h)))
    ∙ IsNumber-decimal (suc n) h

number_stands : (n : Num) → IsInRange n → is_float n ≡ false → tree.HasNumbers (json.number (number_text n))
number_stands (unsigned n) h f = IsNumber-decimal n h
number_stands (negative (pos n)) h f = absurd h
number_stands (negative (negsuc n)) h f = negative_stands n (omega arith)
number_stands (float x) h f = absurd (cc)

mutual
  read_again : (d : Data) → IsCanonical d → HasRange d → has_float d ≡ false → of_json (outline d) ≡ Some d
  read_again null c h f = refl
  read_again (boolean b) c h f = refl
  read_again (number n) c h f = ap (option_map number) (number_told n h f)
  read_again (string s) c h f = refl
  read_again (array ds) c h f = ap (option_map array) (items_again ds c h f)
  read_again (object ms) c h f = ap (option_map object) (members_again ms no_members c h f tt)

  items_again : (ds : Items) → ItemsAreCanonical ds → ItemsHaveRange ds → items_have_float ds ≡ false → of_items (items_outline ds) ≡ Some ds
  items_again no_items c h f = refl
  items_again (item d ds) c h f =
      let both = or_parts (has_float d) (items_have_float ds) f in
      rw (read_again d c.0 h.0 both.0, items_again ds c.1 h.1 both.1) refl

  members_again : (ms found : Members) → MembersAreCanonical ms → MembersHaveRange ms → members_have_float ms ≡ false → AllBefore found ms
      → of_members (members_outline ms) found ≡ Some (joined found ms)
  members_again no_members found c h f b = ap Some (sym (joined_none found))
  members_again (member k d ms) found c h f b =
      let both = or_parts (has_float d) (members_have_float ms) f in
      ap (λ o. option_and_then (λ x. of_members (members_outline ms) (put k x found)) o) (read_again d c.1 h.0 both.0)
      ∙ ap (of_members (members_outline ms)) (put_last k d found ms b)
      ∙ members_again ms (push k d found) c.2 h.1 both.1 (before_push k d found ms b c.0)
      ∙ ap Some (joined_push k d found ms)

mutual
  stands : (d : Data) → HasRange d → has_float d ≡ false → tree.HasNumbers (outline d)
  stands null h f = tt
  stands (boolean b) h f = tt
  stands (number n) h f = number_stands n h f
  stands (string s) h f = tt
  stands (array ds) h f = items_stand ds h f
  stands (object ms) h f = members_stand ms h f

  items_stand : (ds : Items) → ItemsHaveRange ds → items_have_float ds ≡ false → tree.ItemsHaveNumbers (items_outline ds)
  items_stand no_items h f = tt
  items_stand (item d ds) h f = let both = or_parts (has_float d) (items_have_float ds) f in (stands d h.0 both.0, items_stand ds h.1 both.1)

  members_stand : (ms : Members) → MembersHaveRange ms → members_have_float ms ≡ false → tree.MembersHaveNumbers (members_outline ms)
  members_stand no_members h f = tt
  members_stand (member k d ms) h f = let both = or_parts (has_float d) (members_have_float ms) f in (stands d h.0 both.0, members_stand ms h.1 both.1)

pub read_told : (d : Data) → IsUtf8 (compact_text d) → read (compact_text d) ≡ Some d → has_float d ≡ false → IsTold d
read_told d u r f =
    let range = read_range (compact_text d) d r in
    record { again = read_again d (canonical_read (compact_text d) d r) range f; numbers = stands d range f; utf8 = u; whole = f }

pub writable_told : (d : Data) → IsWritable d → IsTold d
writable_told d h = record { again = data_again d h; numbers = printable d h; utf8 = written_utf8 d h; whole = whole d h }

-- ---- an object of what is told

told_again : (ms found : Members) → MembersAreTold ms → AllBefore found ms → of_members (members_outline ms) found ≡ Some (joined found ms)
told_again no_members found h b = ap Some (sym (joined_none found))
told_again (member k d ms) found h b =
    ap (λ o. option_and_then (λ x. of_members (members_outline ms) (put k x found)) o) (h.1.again)
    ∙ ap (of_members (members_outline ms)) (put_last k d found ms b)
    ∙ told_again ms (push k d found) h.2 (before_push k d found ms b h.0)
    ∙ ap Some (joined_push k d found ms)

told_numbers : (ms : Members) → MembersAreTold ms → tree.MembersHaveNumbers (members_outline ms)
told_numbers no_members h = tt
told_numbers (member k d ms) h = (h.1.numbers, told_numbers ms h.2)

told_utf8 : (b : Bool) (ms : Members) → MembersAreTold ms → IsUtf8 (members_text b ms)
told_utf8 b no_members h = IsUtf8-are_ascii (125 ∷ []) refl
told_utf8 b (member k d ms) h =
    comma_utf8 b _ (IsUtf8-append (quoted k) (58 ∷ (compact_text d ++ members_text true ms)) (IsUtf8-quoted k h.3)
    (before 58 _ refl (IsUtf8-append (compact_text d) (members_text true ms) h.1.utf8 (told_utf8 true ms h.2))))

told_whole : (ms : Members) → MembersAreTold ms → members_have_float ms ≡ false
told_whole no_members h = refl
told_whole (member k d ms) h = rw (h.1.whole, told_whole ms h.2) refl

pub object_told : (ms : Members) → MembersAreTold ms → IsTold (object ms)
object_told ms h = record {
  again = ap (option_map object) (told_again ms no_members h tt);
  numbers = told_numbers ms h;
  utf8 = before 123 _ refl (told_utf8 false ms h);
  whole = told_whole ms h;
}

-- the same, where that the names rise and are ASCII is computed

abbrev is_less : Ordering → Bool
is_less Less = true
is_less Equal = false
is_less Greater = false

abbrev names_rise : List ℕ → Members → Bool
names_rise k no_members = true
names_rise k (member l d ms) = is_less (slice_cmp nat_cmp k l) && names_rise k ms

abbrev pub has_row_names : Members → Bool
has_row_names no_members = true
has_row_names (member k d ms) = names_rise k ms && (are_ascii k && has_row_names ms)

less_is : (o : Ordering) (b : Bool) → (is_less o && b) ≡ true → (o ≡ Less) × (b ≡ true)
less_is Less b h = (refl, h)
less_is Equal b h = absurd (cc)
less_is Greater b h = absurd (cc)

above : (k : List ℕ) (ms : Members) → names_rise k ms ≡ true → AreAbove k ms
above k no_members h = tt
above k (member l d ms) h = let both = less_is (slice_cmp nat_cmp k l) (names_rise k ms) h in (both.0, above k ms both.1)

fixed_told : (ms : Members) → has_row_names ms ≡ true → members_depth ms ≤ max_depth → AreTold ms → MembersAreTold ms
fixed_told no_members r l h = tt
fixed_told (member k d ms) r l h =
    let first = and_parts (names_rise k ms) (are_ascii k && has_row_names ms) r in
    let next = and_parts (are_ascii k) (has_row_names ms) first.1 in
    let here : depth d ≤ max_depth = omega arith in
    let later : members_depth ms ≤ max_depth = omega arith in
    (above k ms first.0, h.0 here, fixed_told ms next.1 later h.1, IsUtf8-are_ascii k next.0)

pub row_told : (ms : Members) → has_row_names ms ≡ true → depth (object ms) ≤ max_depth → AreTold ms → IsTold (object ms)
row_told ms r l h = let less : members_depth ms ≤ max_depth = omega arith in object_told ms (fixed_told ms r less h)

-- what is told and nested at most 127 deep reads back from its compact text
pub told_reads : (d : Data) → IsTold d → depth d ≤ max_depth → read (compact_text d) ≡ Some d
told_reads d h shallow =
    let text : tokens (compact_text d) ≡ tree.json_tokens (outline d) = ap tokens (sym (print-outline d)) ∙ tokens-print (tree.json_tokens (outline d)) (ArePrintable-json_tokens (outline d) h.numbers) in
    ap (λ ts. option_and_then of_json (option_and_then (λ p. json.if_last p.0 p.1) (json.value max_depth ts))) (text ∙ sym (append-nil _))
    ∙ ap (λ o. option_and_then of_json (option_and_then (λ p. json.if_last p.0 p.1) o)) (value-json_tokens (outline d) max_depth [] (subst (λ n. n ≤ max_depth) (sym (as_deep d)) shallow))
    ∙ h.again
