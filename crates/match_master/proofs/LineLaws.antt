-- The text of a message ends with its one newline: no JSON text has one.
use Rattle.std.proofs.Common.{◌≡◌, ◌-◌, Option, ◌<◌, ℕ, zero, suc, ◌+◌, ◌/◌, ◌%◌, ◌==◌, nat_lt, Bool, true, false, ◌||◌, cond, if◌then◌else◌, List, [], ◌∷◌, ◌++◌, length, flat_map, decimal, ℤ, pos, negsuc, refl, ap, subst, arith}
use Rattle.std.proofs.lemmas.Bool.Decides.{nat_tests}
use Rattle.std.specs.Char.{digit_char}
use Rattle.std.specs.Fmt.{digit_glyph, digits, digits_onto, signed_decimal}
use Rattle.json.specs.Print.{escape, escape_byte, escape_letter, quoted}
use Rattle.serde_json.specs.Data.{Num, unsigned, negative, float, Data, null, boolean, number, string, array, object, Items, no_items, item, Members, no_members, member}
use Rattle.serde_json.specs.Written.{comma_if, compact_text, items_text, members_text, number_text}
use Rattle.game_sheet.specs.Lines.{is_line}
use Rattle.game_sheet.specs.MatchName.{Name}
use Rattle.wire_json.specs.ServerText.{text}
use Rattle.wire_json.specs.declared.protocol.Protocol.{Protocol}
use Rattle.wire_json.specs.declared.protocol.Protocol.TheVariants.{One, Two}
use Rattle.wire_json.specs.declared.reason.Reason.{Reason}
use Rattle.wire_json.specs.declared.server.ServerMsg.TheVariants as wire
use Rattle.wire_json.specs.declared.server.ServerMsg.{ServerMsg}
use Rattle.wire_json.specs.ServerText.{text, server_members}

-- no byte is a newline
abbrev pub HasNone : List ℕ → Type 0
HasNone [] = Unit {0}
HasNone (byte ∷ bytes) = ((byte == 10) ≡ false) × HasNone bytes

none_in : (xs ys : List ℕ) → HasNone xs → HasNone ys → HasNone (xs ++ ys)
none_in [] ys h k = k
none_in (x ∷ xs) ys h k = (h.0, none_in xs ys h.1 k)

line_by : (b : Bool) (bytes : List ℕ) → b ≡ false → is_line (bytes ++ 10 ∷ []) ≡ true → (if b then length (bytes ++ 10 ∷ []) == 0 else is_line (bytes ++ 10 ∷ [])) ≡ true
line_by true bytes e h = cc
line_by false bytes e h = h

pub line_of_none : (bytes : List ℕ) → HasNone bytes → is_line (bytes ++ 10 ∷ []) ≡ true
line_of_none [] h = refl
line_of_none (byte ∷ bytes) h = line_by (byte == 10) bytes h.0 (line_of_none bytes h.1)

-- ---- numbers

other_byte : (n : ℕ) → 10 < n → (n == 10) ≡ false
other_byte n h = grind (arith, nat_tests)

glyph_by : (b upper : Bool) (d : ℕ) → ((if b then 48 + d else (if upper then 55 + d else 87 + d)) == 10) ≡ false
glyph_by true upper d = other_byte (48 + d) (omega arith)
glyph_by false true d = other_byte (55 + d) (omega arith)
glyph_by false false d = other_byte (87 + d) (omega arith)

glyph_none : (upper : Bool) (d : ℕ) → (digit_glyph upper d == 10) ≡ false
glyph_none upper d = glyph_by (nat_lt d 10) upper d

digits_none : (k base : ℕ) (upper : Bool) (n : ℕ) (acc : List ℕ) → HasNone acc → HasNone (digits_onto k base upper n acc)
digits_none zero base upper n acc h = h
digits_none (suc k) base upper n acc h = by (n / base == 0) (digits_none k base upper (n / base) (digit_glyph upper (n % base) ∷ acc) (glyph_none upper (n % base), h))
  where
    by : (b : Bool) → HasNone (digits_onto k base upper (n / base) (digit_glyph upper (n % base) ∷ acc))
        → HasNone (if b then digit_glyph upper (n % base) ∷ acc else digits_onto k base upper (n / base) (digit_glyph upper (n % base) ∷ acc))
    by true rest = (glyph_none upper (n % base), h)
    by false rest = rest

decimal_none : (n : ℕ) → HasNone (decimal n)
unfolding digits
decimal_none n = digits_none 64 10 false n [] tt

signed_none : (z : ℤ) → HasNone (signed_decimal z)
signed_none (pos n) = decimal_none n
signed_none (negsuc n) = (refl, decimal_none (suc n))

number_none : (n : Num) → HasNone (number_text n)
number_none (unsigned n) = decimal_none n
number_none (negative z) = signed_none z
number_none (float x) = tt

-- ---- texts

char_by : (b : Bool) (d : ℕ) → (cond b (48 + d) (87 + d) == 10) ≡ false
char_by true d = other_byte (48 + d) (omega arith)
char_by false d = other_byte (87 + d) (omega arith)

char_none : (d : ℕ) → (digit_char d == 10) ≡ false
char_none d = char_by (nat_lt d 10) d

-- a byte with a short escape has a letter there, and another byte that stands for itself is no newline
letter_none : (x : ℕ) → (escape_letter x == 10) ≡ false
letter_none x = by ((x == 34) || (x == 92)) (x == 8) (x == 12) (x == 10) (x == 13) (x == 9) refl
  where
    kept : (p q : Bool) → (x == 34) ≡ p → (x == 92) ≡ q → (p || q) ≡ true → (x == 10) ≡ false
    kept p q h k e = grind (arith, nat_tests)

    by : (a b c d e f : Bool) → ((x == 34) || (x == 92)) ≡ a → (cond a x (cond b 98 (cond c 102 (cond d 110 (cond e 114 (cond f 116 0))))) == 10) ≡ false
    by true b c d e f h = kept (x == 34) (x == 92) refl refl h
    by false true c d e f h = refl
    by false false true d e f h = refl
    by false false false true e f h = refl
    by false false false false true f h = refl
    by false false false false false true h = refl
    by false false false false false false h = refl

plain_none : (x : ℕ) → nat_lt 0 (escape_letter x) ≡ false → (x == 10) ≡ false
plain_none x h = by (x == 10) refl
  where
    ten : (x : ℕ) → (x == 10) ≡ true → x ≡ 10
    ten x e = grind (arith, nat_tests)

    both : true ≡ false → ⊥
    both e = cc

    by : (b : Bool) → (x == 10) ≡ b → b ≡ false
    by true e = absurd (both (subst (λ y. nat_lt 0 (escape_letter y) ≡ false) (ten x e) h))
    by false e = refl

escaped_by : (x : ℕ) (a b : Bool) → nat_lt 0 (escape_letter x) ≡ a
    → HasNone (cond a (92 ∷ escape_letter x ∷ []) (cond b (92 ∷ 117 ∷ 48 ∷ 48 ∷ digit_char (x / 16) ∷ digit_char (x % 16) ∷ []) (x ∷ [])))
escaped_by x true b h = (refl, (letter_none x, tt))
escaped_by x false true h = (refl, (refl, (refl, (refl, (char_none (x / 16), (char_none (x % 16), tt))))))
escaped_by x false false h = (plain_none x h, tt)

escaped_none : (x : ℕ) → HasNone (escape_byte x)
unfolding escape_byte
escaped_none x = escaped_by x (nat_lt 0 (escape_letter x)) (nat_lt x 32) refl

escape_none : (s : List ℕ) → HasNone (escape s)
escape_none [] = tt
escape_none (x ∷ s) = none_in (escape_byte x) (escape s) (escaped_none x) (escape_none s)

quoted_none : (s : List ℕ) → HasNone (quoted s)
quoted_none s = (refl, none_in (escape s) (34 ∷ []) (escape_none s) (refl, tt))

comma_none : (later : Bool) → HasNone (comma_if later)
comma_none true = (refl, tt)
comma_none false = tt

-- No JSON text has one.
mutual
  pub data_none : (d : Data) → HasNone (compact_text d)
  data_none null = (refl, (refl, (refl, (refl, tt))))
  data_none (boolean true) = (refl, (refl, (refl, (refl, tt))))
  data_none (boolean false) = (refl, (refl, (refl, (refl, (refl, tt)))))
  data_none (number n) = number_none n
  data_none (string s) = quoted_none s
  data_none (array ds) = (refl, items_none false ds)
  data_none (object ms) = (refl, members_none false ms)

  items_none : (later : Bool) (ds : Items) → HasNone (items_text later ds)
  items_none later no_items = (refl, tt)
  items_none later (item d ds) = none_in (comma_if later) (compact_text d ++ items_text true ds) (comma_none later) (none_in (compact_text d) (items_text true ds) (data_none d) (items_none true ds))

  members_none : (later : Bool) (ms : Members) → HasNone (members_text later ms)
  members_none later no_members = (refl, tt)
  members_none later (member k d ms) =
      none_in (comma_if later) (quoted k ++ 58 ∷ (compact_text d ++ members_text true ms)) (comma_none later)
      (none_in (quoted k) (58 ∷ (compact_text d ++ members_text true ms)) (quoted_none k) (refl, none_in (compact_text d) (members_text true ms) (data_none d) (members_none true ms)))

pub line_is_line : (m : ServerMsg) → is_line (text m) ≡ true
unfolding text
line_is_line m = line_of_none (compact_text (object (server_members m))) (data_none (object (server_members m)))
