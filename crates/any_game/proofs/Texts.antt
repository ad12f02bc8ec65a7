-- How many bytes the texts of parts of states have at most.
use Rattle.std.proofs.Common.{◌≡◌, ◌≤◌, ◌<◌, ◌+◌, ◌*◌, ◌^◌, ◌&&◌, ℕ, zero, suc, Bool, true, false, nat_le, nat_lt, IsTrue, List, [], ◌∷◌, ◌++◌, length, map, Option, Some, None, refl, sym, ap, ◌∙◌, arith, lit<, lit≤}
use Rattle.std.specs.Prelude.{cond}
use Rattle.std.specs.List.{list_all}
use Rattle.std.specs.Str.{is_utf8}
use Rattle.std.proofs.Math.Nat.{le_trans, lt_of_le_of_lt, mul-le-mul_left, mul-suc}
use Rattle.std.proofs.lemmas.Bool.{and_parts, leb-true, ltb-true}
use Rattle.std.proofs.lemmas.Fmt.{length-decimal-le}
use Rattle.std.proofs.lemmas.List.{length-append}
use Rattle.json.specs.Print.{escape, escape_byte, escape_letter, quoted}
use Rattle.serde_json.specs.Data.{Data, null, number, unsigned, array, object, Members, member, no_members}
use Rattle.serde_json.specs.View.{items_of}
use Rattle.serde_json.specs.Written.{comma_if, compact_text, items_text, members_text}
use Rattle.game_sheet.specs.Short.{is_plain, is_short}
use Rattle.card_games.specs.Parts.{list_value, lone_value, number_value, option_value, own_option, text_value}

-- the text of each own value has at most so many bytes
abbrev pub AtMost : {A : Type 0} → ℕ → (A → Data) → (A → Bool) → Type 0
AtMost {A = A} most value own = (x : A) → IsTrue (own x) → length (compact_text (value x)) ≤ most

-- ---- numbers and texts

pub number_bytes : (k most : ℕ) → 0 < k → most < 10 ^ k → most < 2 ^ 64 → AtMost k number_value (λ n. nat_le n most)
number_bytes k most some fits small n own =
    let low : n ≤ most = leb-true n most own in
    length-decimal-le k n some (lt_of_le_of_lt {n = n} {m = most} {k = 10 ^ k} low fits) (lt_of_le_of_lt {n = n} {m = most} {k = 2 ^ 64} low small)

two_bytes : (short control : Bool) (letter x y b : ℕ) → control ≡ false → length (cond short (92 ∷ letter ∷ []) (cond control (92 ∷ 117 ∷ 48 ∷ 48 ∷ x ∷ y ∷ []) (b ∷ []))) ≤ 2
two_bytes true control letter x y b is = lit≤ tt
two_bytes false false letter x y b is = lit≤ tt
two_bytes false true letter x y b is = absurd (cc)

no_control : (b : ℕ) (control : Bool) → nat_le 32 b ≡ true → nat_lt b 32 ≡ control → nat_lt b 32 ≡ false
no_control b false plain is = is
no_control b true plain is = absurd (omega (arith, leb-true 32 b plain, ltb-true b 32 is))

byte_bytes : (b : ℕ) → nat_le 32 b ≡ true → length (escape_byte b) ≤ 2
unfolding escape_byte
byte_bytes b plain = two_bytes (nat_lt 0 (escape_letter b)) (nat_lt b 32) (escape_letter b) _ _ b (no_control b (nat_lt b 32) plain refl)

escape_bytes : (bytes : List ℕ) → is_plain bytes ≡ true → length (escape bytes) ≤ 2 * length bytes
escape_bytes [] plain = lit≤ tt
escape_bytes (b ∷ bytes) plain =
    let parts = and_parts (nat_le 32 b) (is_plain bytes) plain in
    rw (length-append (escape_byte b) (escape bytes)) (omega (arith, byte_bytes b parts.0, escape_bytes bytes parts.1))

pub quoted_bytes : (bytes : List ℕ) → is_plain bytes ≡ true → length (quoted bytes) ≤ 2 * length bytes + 2
quoted_bytes bytes plain = rw (length-append (escape bytes) (34 ∷ [])) (omega (arith, escape_bytes bytes plain))

pub text_bytes : AtMost 130 text_value is_short
text_bytes text own =
    let outer = and_parts (nat_le (length text) 64 && is_plain text) (is_utf8 text) own in
    let inner = and_parts (nat_le (length text) 64) (is_plain text) outer.0 in
    omega (arith, quoted_bytes text inner.1, leb-true (length text) 64 inner.0)

pub option_bytes : {A : Type 0} (most : ℕ) (value : A → Data) (own : A → Bool) → 4 ≤ most → AtMost most value own → AtMost most (option_value value) (own_option own)
option_bytes most value own least each None is = least
option_bytes most value own least each (Some x) is = each x is

-- ---- lists

comma_bytes : (later : Bool) → length (comma_if later) ≤ 1
comma_bytes true = lit≤ tt
comma_bytes false = lit≤ tt

one_more : (comma first rest most others : ℕ) → comma ≤ 1 → first ≤ most → rest ≤ others + 1 → comma + (first + rest) ≤ (others + (most + 1)) + 1
one_more comma first rest most others c f r = omega (arith, c, f, r)

items_bytes : {A : Type 0} (most : ℕ) (value : A → Data) (own : A → Bool) → AtMost most value own → (later : Bool) (xs : List A) → list_all own xs ≡ true
    → length (items_text later (items_of (map value xs))) ≤ (most + 1) * length xs + 1
items_bytes most value own each later [] all = omega arith
items_bytes most value own each later (x ∷ xs) all =
    let parts = and_parts (own x) (list_all own xs) all in
    let rest = items_text true (items_of (map value xs)) in
    rw (length-append (comma_if later) (compact_text (value x) ++ rest), length-append (compact_text (value x)) rest, mul-suc (most + 1) (length xs))
    (one_more (length (comma_if later)) (length (compact_text (value x))) (length rest) most ((most + 1) * length xs) (comma_bytes later) (each x parts.0) (items_bytes most value own each true xs parts.1))

pub list_bytes : {A : Type 0} (count most : ℕ) (value : A → Data) (own : A → Bool) → AtMost most value own → (xs : List A) → length xs ≤ count → list_all own xs ≡ true
    → length (compact_text (list_value value xs)) ≤ (most + 1) * count + 2
list_bytes count most value own each xs few all =
    omega (arith, items_bytes most value own each false xs all, mul-le-mul_left {m = length xs} {n = count} (most + 1) few)

-- ---- objects

-- one more member, whose name and value have so many bytes
pub member_bytes : (later : Bool) (name : List ℕ) (d : Data) (ms : Members) (named held others : ℕ) → length (quoted name) ≤ named → length (compact_text d) ≤ held → length (members_text true ms) ≤ others
    → length (members_text later (member name d ms)) ≤ named + held + others + 2
member_bytes later name d ms named held others n h o =
    let rest = compact_text d ++ members_text true ms in
    rw (length-append (comma_if later) (quoted name ++ 58 ∷ rest), length-append (quoted name) (58 ∷ rest), length-append (compact_text d) (members_text true ms))
    (omega (arith, comma_bytes later, n, h, o))
