-- The compact text of a writable value is UTF-8, and has no newline.
use Rattle.std.proofs.Common.{◌≡◌, ◌<◌, ◌^◌, ℕ, suc, pos, negsuc, Bool, true, false, List, [], ◌∷◌, ◌++◌, IsUtf8, decimal, refl, arith}
use Rattle.std.proofs.lemmas.Fmt.{decimal_is_IsNumeral}
use Rattle.std.proofs.lemmas.Str.{IsUtf8-append}
use Rattle.std.specs.Char.{digit_value}
use Rattle.std.specs.Str.Parse.{AllDigits}
use Rattle.std.specs.Prelude.{nat_lt}
use Rattle.std.proofs.lemmas.Bool.Decides.{nat_tests}
use Rattle.json.specs.Print.{quoted}
use Rattle.json.proofs.Printed.Utf8.{are_ascii, IsUtf8-are_ascii, IsUtf8-quoted, IsUtf8-boolean}
use Rattle.serde_json.specs.Data.{Num, unsigned, negative, float, Data, null, boolean, number, string, array, object, Items, no_items, item, Members, no_members, member}
use Rattle.serde_json.specs.Written.{has_float, items_have_float, members_have_float, number_text, compact_text, items_text, members_text, comma_if}
use Rattle.json_tree.specs.Writable.{IsWhole, IsWritable, ItemsAreWritable, MembersAreWritable}

low_digit : (d : ℕ) → digit_value d < 10 → nat_lt d 128 ≡ true
low_digit d h = grind (arith, nat_tests)

digits_ascii : (ds : List ℕ) → AllDigits 10 ds → are_ascii ds ≡ true
digits_ascii [] h = refl
digits_ascii (d ∷ ds) h = rw (low_digit d h.0, digits_ascii ds h.1) refl

pub decimal_utf8 : (n : ℕ) → n < 2 ^ 64 → IsUtf8 (decimal n)
decimal_utf8 n h = IsUtf8-are_ascii (decimal n) (digits_ascii (decimal n) (decimal_is_IsNumeral n h).0.1)

pub before : (x : ℕ) (xs : List ℕ) → are_ascii (x ∷ []) ≡ true → IsUtf8 xs → IsUtf8 (x ∷ xs)
before x xs a u = IsUtf8-append (x ∷ []) xs (IsUtf8-are_ascii (x ∷ []) a) u

pub comma_utf8 : (b : Bool) (xs : List ℕ) → IsUtf8 xs → IsUtf8 (comma_if b ++ xs)
comma_utf8 true xs u = before 44 xs refl u
comma_utf8 false xs u = u

number_utf8 : (n : Num) → IsWhole n → IsUtf8 (number_text n)
number_utf8 (unsigned n) h = decimal_utf8 n h
number_utf8 (negative (pos n)) h = absurd h
number_utf8 (negative (negsuc n)) h = before 45 (decimal (suc n)) refl (decimal_utf8 (suc n) (omega arith))
number_utf8 (float x) h = absurd h

mutual
  pub written_utf8 : (d : Data) → IsWritable d → IsUtf8 (compact_text d)
  written_utf8 null h = IsUtf8-are_ascii (compact_text null) refl
  written_utf8 (boolean b) h = IsUtf8-boolean b
  written_utf8 (number n) h = number_utf8 n h
  written_utf8 (string s) h = IsUtf8-quoted s h
  written_utf8 (array ds) h = before 91 _ refl (items_utf8 false ds h)
  written_utf8 (object ms) h = before 123 _ refl (members_utf8 false ms h)

  items_utf8 : (b : Bool) (ds : Items) → ItemsAreWritable ds → IsUtf8 (items_text b ds)
  items_utf8 b no_items h = IsUtf8-are_ascii (93 ∷ []) refl
  items_utf8 b (item d ds) h = comma_utf8 b _ (IsUtf8-append (compact_text d) (items_text true ds) (written_utf8 d h.0) (items_utf8 true ds h.1))

  members_utf8 : (b : Bool) (ms : Members) → MembersAreWritable ms → IsUtf8 (members_text b ms)
  members_utf8 b no_members h = IsUtf8-are_ascii (125 ∷ []) refl
  members_utf8 b (member k d ms) h =
      comma_utf8 b _ (IsUtf8-append (quoted k) (58 ∷ (compact_text d ++ members_text true ms)) (IsUtf8-quoted k h.3)
      (before 58 _ refl (IsUtf8-append (compact_text d) (members_text true ms) (written_utf8 d h.1) (members_utf8 true ms h.2))))

-- a writable value has no float
mutual
  pub whole : (d : Data) → IsWritable d → has_float d ≡ false
  whole null h = refl
  whole (boolean b) h = refl
  whole (number (unsigned n)) h = refl
  whole (number (negative (pos n))) h = absurd h
  whole (number (negative (negsuc n))) h = refl
  whole (number (float x)) h = absurd h
  whole (string s) h = refl
  whole (array ds) h = items_whole ds h
  whole (object ms) h = members_whole ms h

  items_whole : (ds : Items) → ItemsAreWritable ds → items_have_float ds ≡ false
  items_whole no_items h = refl
  items_whole (item d ds) h = rw (whole d h.0, items_whole ds h.1) refl

  pub members_whole : (ms : Members) → MembersAreWritable ms → members_have_float ms ≡ false
  members_whole no_members h = refl
  members_whole (member k d ms) h = rw (whole d h.1, members_whole ms h.2) refl
