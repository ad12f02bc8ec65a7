-- A name of letters, digits and `_` is ASCII, and stands in a text as it is.
use Rattle.std.proofs.Common.{◌≡◌, ◌≤◌, ◌<◌, ◌+◌, ◌≢◌, ◌&&◌, ◌||◌, ◌==◌, ℕ, true, nat_le, List, [], ◌∷◌, ◌++◌, length, inl, inr, refl, ap₂, arith, IsUtf8}
use Rattle.std.specs.List.{list_all}
use Rattle.std.proofs.lemmas.Bool.{and_from, and_parts, eqb-true, leb-true, lt-ltb, or_cases}
use Rattle.std.proofs.lemmas.List.{length-append}
use Rattle.json.proofs.Printed.Strings.{escape_byte_plain}
use Rattle.json.proofs.Printed.Utf8.{are_ascii, IsUtf8-are_ascii}
use Rattle.json.specs.Print.{escape, quoted}
use Rattle.slot_json.specs.SlotForms.{is_name_byte}

record IsPlainByte (b : ℕ) : Type 0 where
  least : 48 ≤ b
  most : b ≤ 122
  other : b ≢ 92

between : (least most b : ℕ) → (nat_le least b && nat_le b most) ≡ true → (least ≤ b) × (b ≤ most)
between least most b is = let parts = and_parts (nat_le least b) (nat_le b most) is in (leb-true least b parts.0, leb-true b most parts.1)

digit_plain : (b : ℕ) → (nat_le 48 b && nat_le b 57) ≡ true → IsPlainByte b
digit_plain b is = let h = between 48 57 b is in let low : 48 ≤ b = h.0 in let high : b ≤ 57 = h.1 in record { least = low; most = omega arith; other = λ e. omega arith }

capital_plain : (b : ℕ) → (nat_le 65 b && nat_le b 90) ≡ true → IsPlainByte b
capital_plain b is = let h = between 65 90 b is in let low : 65 ≤ b = h.0 in let high : b ≤ 90 = h.1 in record { least = omega arith; most = omega arith; other = λ e. omega arith }

line_plain : (b : ℕ) → (b == 95) ≡ true → IsPlainByte b
line_plain b is = let same : b ≡ 95 = eqb-true b 95 is in record { least = omega arith; most = omega arith; other = λ e. omega arith }

small_plain : (b : ℕ) → (nat_le 97 b && nat_le b 122) ≡ true → IsPlainByte b
small_plain b is = let h = between 97 122 b is in let low : 97 ≤ b = h.0 in let high : b ≤ 122 = h.1 in record { least = omega arith; most = high; other = λ e. omega arith }

name_plain : (b : ℕ) → is_name_byte b ≡ true → IsPlainByte b
name_plain b is =
    let digit = nat_le 48 b && nat_le b 57 in
    let capital = nat_le 65 b && nat_le b 90 in
    let small = nat_le 97 b && nat_le b 122 in
    elim (or_cases (digit || capital || (b == 95)) small is) [
      | inr s ↦ small_plain b s
      | inl more ↦ elim (or_cases (digit || capital) (b == 95) more) [
        | inr l ↦ line_plain b l
        | inl most ↦ elim (or_cases digit capital most) [ inl d ↦ digit_plain b d | inr c ↦ capital_plain b c ]
      ]
    ]

pub name_ascii : (name : List ℕ) → list_all is_name_byte name ≡ true → are_ascii name ≡ true
name_ascii [] is = refl
name_ascii (b ∷ name) is =
    let parts = and_parts (is_name_byte b) (list_all is_name_byte name) is in
    let plain = name_plain b parts.0 in
    let most : b ≤ 122 = plain.most in
    let low : b < 128 = omega arith in
    and_from _ (are_ascii name) (lt-ltb b 128 low) (name_ascii name parts.1)

pub name_utf8 : (name : List ℕ) → list_all is_name_byte name ≡ true → IsUtf8 name
name_utf8 name is = IsUtf8-are_ascii name (name_ascii name is)

name_escape : (name : List ℕ) → list_all is_name_byte name ≡ true → escape name ≡ name
name_escape [] is = refl
name_escape (b ∷ name) is =
    let parts = and_parts (is_name_byte b) (list_all is_name_byte name) is in
    let plain = name_plain b parts.0 in
    let least : 48 ≤ b = plain.least in
    ap₂ (λ (x y : List ℕ). x ++ y) (escape_byte_plain b (λ e. omega arith) plain.other (omega arith)) (name_escape name parts.1)

pub name_bytes : (name : List ℕ) → list_all is_name_byte name ≡ true → length (quoted name) ≤ length name + 2
name_bytes name is = rw (name_escape name is, length-append name (34 ∷ [])) (omega arith)
