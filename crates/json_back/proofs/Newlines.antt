-- The compact text of a writable value holds no newline, so the lines of messages are parted by theirs.
use Rattle.std.proofs.Common.{◌≡◌, ◌<◌, ◌≤◌, ◌==◌, ℕ, suc, pos, negsuc, Bool, true, false, cond, zero, inl, inr, List, [], ◌∷◌, ◌++◌, decimal, refl, arith}
use Rattle.std.proofs.lemmas.Bool.{cases_eq, cases_lt}
use Rattle.std.proofs.lemmas.Bool.Decides.{nat_tests}
use Rattle.json.proofs.Printed.Strings.{escape_byte_plain}
use Rattle.std.proofs.lemmas.Fmt.{decimal_is_IsNumeral}
use Rattle.std.specs.Char.{digit_value}
use Rattle.std.specs.List.{list_any}
use Rattle.std.specs.Str.Parse.{AllDigits}
use Rattle.json.specs.Print.{escape, escape_byte, quoted}
use Rattle.serde_json.specs.Data.{Num, unsigned, negative, float, Data, null, boolean, number, string, array, object, Items, no_items, item, Members, no_members, member}
use Rattle.serde_json.specs.Written.{number_text, compact_text, items_text, members_text, comma_if}
use Rattle.json_tree.specs.Writable.{IsWhole, IsWritable, ItemsAreWritable, MembersAreWritable}

-- no byte is a newline
abbrev pub HasNone : List ℕ → Type 0
HasNone [] = Unit {0}
HasNone (x ∷ xs) = ((x == 10) ≡ false) × HasNone xs

none_append : (xs ys : List ℕ) → HasNone xs → HasNone ys → HasNone (xs ++ ys)
none_append [] ys h k = k
none_append (x ∷ xs) ys h k = (h.0, none_append xs ys h.1 k)

-- the escapes of the bytes below a number, by computing
abbrev clear : List ℕ → Bool
clear [] = true
clear (x ∷ xs) = cond (x == 10) false (clear xs)

clear_by : (x : ℕ) (b : Bool) (rest : Bool) → (x == 10) ≡ b → cond b false rest ≡ true → ((x == 10) ≡ false) × (rest ≡ true)
clear_by x true rest e k = absurd (cc)
clear_by x false rest e k = (e, k)

clear_is : (xs : List ℕ) → clear xs ≡ true → HasNone xs
clear_is [] h = tt
clear_is (x ∷ xs) h = let both = clear_by x (x == 10) (clear xs) refl h in (both.0, clear_is xs both.1)

-- the escapes of the bytes below 32 are clear, by computing; the others that are escaped have one letter, and the rest stand as they are
abbrev all_clear : ℕ → Bool
all_clear zero = true
all_clear (suc n) = cond (clear (escape_byte n)) (all_clear n) false

low_by : (n x : ℕ) (b rest : Bool) → clear (escape_byte n) ≡ b → cond b rest false ≡ true → (clear (escape_byte n) ≡ true) × (rest ≡ true)
low_by n x true rest e k = (e, k)
low_by n x false rest e k = absurd (cc)

low_clear : (n : ℕ) → all_clear n ≡ true → (x : ℕ) → x < n → clear (escape_byte x) ≡ true
low_clear zero h x l = absurd (omega arith)
low_clear (suc n) h x l =
    let both = low_by n x (clear (escape_byte n)) (all_clear n) refl h in
    elim (cases_eq x n) [ inl same ↦ rw same both.0 | inr other ↦ low_clear n both.1 x (omega arith) ]

first_clear : all_clear 128 ≡ true
unfolding escape_byte
first_clear = refl

high_by : (x : ℕ) → 128 ≤ x → escape_byte x ≡ x ∷ []
high_by x h = escape_byte_plain x (λ e. absurd (omega arith)) (λ e. absurd (omega arith)) (omega arith)

not_newline : (x : ℕ) → 128 ≤ x → (x == 10) ≡ false
not_newline x h = grind (arith, nat_tests)

byte_clear : (x : ℕ) → HasNone (escape_byte x)
byte_clear x = elim (cases_lt x 128) [ inl low ↦ clear_is (escape_byte x) (low_clear 128 first_clear x low) | inr high ↦ rw (high_by x high) (not_newline x high, tt) ]

escape_clear : (s : List ℕ) → HasNone (escape s)
escape_clear [] = tt
escape_clear (x ∷ s) = none_append (escape_byte x) (escape s) (byte_clear x) (escape_clear s)

quoted_clear : (s : List ℕ) → HasNone (quoted s)
quoted_clear s = (refl, none_append (escape s) (34 ∷ []) (escape_clear s) (refl, tt))

digit_clear : (d : ℕ) → digit_value d < 10 → (d == 10) ≡ false
digit_clear d h = grind (arith, nat_tests)

digits_clear : (ds : List ℕ) → AllDigits 10 ds → HasNone ds
digits_clear [] h = tt
digits_clear (d ∷ ds) h = (digit_clear d h.0, digits_clear ds h.1)

number_clear : (n : Num) → IsWhole n → HasNone (number_text n)
number_clear (unsigned n) h = digits_clear (decimal n) (decimal_is_IsNumeral n h).0.1
number_clear (negative (pos n)) h = absurd h
number_clear (negative (negsuc n)) h = (refl, digits_clear (decimal (suc n)) (decimal_is_IsNumeral (suc n) (omega arith)).0.1)
number_clear (float x) h = absurd h

comma_clear : (b : Bool) (xs : List ℕ) → HasNone xs → HasNone (comma_if b ++ xs)
comma_clear true xs h = (refl, h)
comma_clear false xs h = h

mutual
  pub written_clear : (d : Data) → IsWritable d → HasNone (compact_text d)
  written_clear null h = clear_is (compact_text null) refl
  written_clear (boolean true) h = clear_is (compact_text (boolean true)) refl
  written_clear (boolean false) h = clear_is (compact_text (boolean false)) refl
  written_clear (number n) h = number_clear n h
  written_clear (string s) h = quoted_clear s
  written_clear (array ds) h = (refl, items_clear false ds h)
  written_clear (object ms) h = (refl, members_clear false ms h)

  items_clear : (b : Bool) (ds : Items) → ItemsAreWritable ds → HasNone (items_text b ds)
  items_clear b no_items h = (refl, tt)
  items_clear b (item d ds) h = comma_clear b _ (none_append (compact_text d) (items_text true ds) (written_clear d h.0) (items_clear true ds h.1))

  members_clear : (b : Bool) (ms : Members) → MembersAreWritable ms → HasNone (members_text b ms)
  members_clear b no_members h = (refl, tt)
  members_clear b (member k d ms) h =
      comma_clear b _ (none_append (quoted k) (58 ∷ (compact_text d ++ members_text true ms)) (quoted_clear k) (refl, none_append (compact_text d) (members_text true ms) (written_clear d h.1) (members_clear true ms h.2)))

none_is : (xs : List ℕ) → HasNone xs → list_any (λ b. b == 10) xs ≡ false
none_is [] h = refl
none_is (x ∷ xs) h = rw (h.0, none_is xs h.1) refl

pub written_whole_line : (d : Data) → IsWritable d → list_any (λ b. b == 10) (compact_text d) ≡ false
written_whole_line d h = none_is (compact_text d) (written_clear d h)
