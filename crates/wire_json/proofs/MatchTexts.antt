-- The text of a match's name reads as the name, and no other text does.
use Rattle.std.proofs.Common.{◌≡◌, ℕ, zero, suc, ◌+◌, ◌<◌, ◌≤◌, ◌^◌, List, [], ◌∷◌, ◌++◌, length, take, drop, get_or, Bool, true, false, cond, ◌&&◌, ◌==◌, ◌⊎◌, inl, inr, Option, Some, None, Ok, Err, refl, sym, ap, ◌∙◌, subst, arith, rules}
use Rattle.std.proofs.lemmas.Bool.{both_ways, and_parts, lt-ltb, ltb-true, le-leb, leb-true, eqb-true, ne_eqb, not-true, false_from_ne_true, not_from_false}
use Rattle.std.proofs.lemmas.Fmt.{decimal_digit, first_decimal, decimal_nonempty, digits_decimal, digits_value-decimal, decimal-digits_value}
use Rattle.std.proofs.lemmas.Str.Parse.{IsNumeralModel, numerals_by_value, parse_digits}
use Rattle.std.specs.Prelude.{nat_lt, nat_le, Result}
use Rattle.std.specs.Char.{is_ascii_digit}
use Rattle.std.specs.Fmt.{decimal}
use Rattle.std.specs.List.{list_all, before_first, after_first, position_or_len}
use Rattle.std.specs.Result.{result_ok, OkIff}
use Rattle.std.specs.Str.Parse.{digits_value, ParsesUnsigned}
use Rattle.game_sheet.specs.MatchName.{Name}
use Rattle.wire_json.specs.MatchText.{match_text, IsName, begins_well, is_decimal, number_from, is_dash, name_of, match_from}

-- ---- numbers

abbrev AreDigits : List ℕ → Type 0
AreDigits ds = list_all is_ascii_digit ds ≡ true

own : IsNumeralModel AreDigits (digits_value 10)
own = numerals_by_value AreDigits (search rules)

pub decimal_digits : (n : ℕ) → n < 2 ^ 64 → AreDigits (decimal n)
decimal_digits n h = digits_decimal own n h

parsed : {E : Type 0} (r : Result ℕ E) (some : Type 0) (v : ℕ) → some → OkIff r (some × (v < 2 ^ 64)) v → result_ok r ≡ cond (nat_lt v (2 ^ 64)) (Some v) None
parsed (Ok x) some v s h = rw (lt-ltb v (2 ^ 64) h.0.1, h.1) refl
parsed (Err e) some v s h = rw (false_from_ne_true (nat_lt v (2 ^ 64)) (λ t. h (s, ltb-true v (2 ^ 64) t))) refl

starts : (s : List ℕ) → begins_well s ≡ true → 0 < length s
starts [] h = absurd (both_ways false refl h)
starts (c ∷ cs) h = omega arith

pub number_parsed : {E : Type 0} (s : List ℕ) (r : Result ℕ E) → is_decimal s ≡ true → ParsesUnsigned 64 10 s r → result_ok r ≡ number_from s
unfolding number_from
number_parsed s r good h =
    let both = and_parts (begins_well s) (list_all is_ascii_digit s) good in
    rw (good) (parsed r (0 < length s) (digits_value 10 s) (starts s both.0) (parse_digits own 64 s r h both.1))

no_zero_first : (s : List ℕ) → begins_well s ≡ true → get_or s 0 0 ≡ 48 → length s ≡ 1
no_zero_first [] h z = absurd (both_ways false refl h)
no_zero_first (c ∷ []) h z = refl
no_zero_first (c ∷ d ∷ cs) h z = absurd (both_ways (c == 48) (not-true (c == 48) h) (ap (λ x. x == 48) z))

number_at : (b : Bool) (v n : ℕ) → cond b (Some v) None ≡ Some n → (b ≡ true) × (v ≡ n)
number_at true v n e = (refl, cc)
number_at false v n e = absurd (cc)

pub number_is : (s : List ℕ) (n : ℕ) → number_from s ≡ Some n → (s ≡ decimal n) × (n < 2 ^ 64)
unfolding number_from
number_is s n e =
    let found = number_at (is_decimal s && nat_lt (digits_value 10 s) (2 ^ 64)) (digits_value 10 s) n e in
    let tests = and_parts (is_decimal s) (nat_lt (digits_value 10 s) (2 ^ 64)) found.0 in
    let both = and_parts (begins_well s) (list_all is_ascii_digit s) tests.0 in
    let small : digits_value 10 s < 2 ^ 64 = ltb-true (digits_value 10 s) (2 ^ 64) tests.1 in
    let text : decimal (digits_value 10 s) ≡ s = decimal-digits_value own s both.1 (starts s both.0) (no_zero_first s both.0) small in
    (sym text ∙ ap decimal found.1, subst (λ x. x < 2 ^ 64) found.1 small)

begins : (s : List ℕ) → 0 < length s → (48 < get_or s 0 0) ⊎ (length s ≡ 1) → begins_well s ≡ true
begins [] h i = absurd (omega arith)
begins (c ∷ []) h i = refl
begins (c ∷ d ∷ cs) h (inl i) = not_from_false (c == 48) (ne_eqb c 48 (λ z. absurd (omega arith)))
begins (c ∷ d ∷ cs) h (inr i) = absurd (omega arith)

decimal_begins : (n : ℕ) → n < 2 ^ 64 → begins_well (decimal n) ≡ true
decimal_begins zero h = rw (decimal_digit 0 (omega arith)) refl
decimal_begins (suc n) h = begins (decimal (suc n)) (decimal_nonempty (suc n) h) (inl (first_decimal (suc n) (omega arith) h))

pub number_again : (n : ℕ) → n < 2 ^ 64 → number_from (decimal n) ≡ Some n
unfolding number_from
number_again n h = rw (decimal_begins n h, digits_decimal own n h, digits_value-decimal own n h, lt-ltb n (2 ^ 64) h) refl

-- ---- the dash between

digit_no_dash : (c : ℕ) → is_ascii_digit c ≡ true → is_dash c ≡ false
digit_no_dash c h = ne_eqb c 45 (λ e. both_ways (is_ascii_digit c) (ap is_ascii_digit e) h)

before_more : (d : ℕ) (xs : List ℕ) → is_dash d ≡ false → before_first is_dash (d ∷ xs) ≡ d ∷ before_first is_dash xs
before_more d xs h = let e : 1 + position_or_len is_dash xs ≡ suc (position_or_len is_dash xs) = omega arith in rw (h, e) refl

after_more : (d : ℕ) (xs : List ℕ) → is_dash d ≡ false → after_first is_dash (d ∷ xs) ≡ after_first is_dash xs
after_more d xs h = let e : 1 + position_or_len is_dash xs + 1 ≡ suc (position_or_len is_dash xs + 1) = omega arith in rw (h, e) refl

around : (ds es : List ℕ) → AreDigits ds → (before_first is_dash (ds ++ 45 ∷ es) ≡ ds) × (after_first is_dash (ds ++ 45 ∷ es) ≡ es)
around [] es h = (refl, refl)
around (d ∷ ds) es h =
    let both = and_parts (is_ascii_digit d) (list_all is_ascii_digit ds) h in
    let rest = around ds es both.1 in
    let here = digit_no_dash d both.0 in
    (before_more d (ds ++ 45 ∷ es) here ∙ ap (λ xs. d ∷ xs) rest.0, after_more d (ds ++ 45 ∷ es) here ∙ rest.1)

pub match_again : (name : Name) → IsName name → match_from (match_text name) ≡ Some name
unfolding match_from
match_again name h =
    let parts = around (decimal name.room) (decimal name.serial) (digits_decimal own name.room (omega arith)) in
    rw (parts.0, parts.1, number_again name.room (omega arith), number_again name.serial h.2, le-leb name.room 63 h.0, le-leb 1 name.serial h.1) refl

-- a text is its parts around the first dash, or nothing stands behind it
abbrev IsApart : List ℕ → Type 0
IsApart s = (s ≡ before_first is_dash s ++ 45 ∷ after_first is_dash s) ⊎ (after_first is_dash s ≡ [])

apart_later : (c : ℕ) (cs : List ℕ) → is_dash c ≡ false → IsApart cs → IsApart (c ∷ cs)
apart_later c cs h (inl e) = inl (ap (λ xs. c ∷ xs) e ∙ sym (rw (before_more c cs h, after_more c cs h) refl))
apart_later c cs h (inr e) = inr (after_more c cs h ∙ e)

apart_at : (b : Bool) (c : ℕ) (cs : List ℕ) → is_dash c ≡ b → IsApart cs → IsApart (c ∷ cs)
apart_at true c cs h rest = inl (rw (h) (ap (λ x. x ∷ cs) (eqb-true c 45 h)))
apart_at false c cs h rest = apart_later c cs h rest

apart : (s : List ℕ) → IsApart s
apart [] = inr refl
apart (c ∷ cs) = apart_at (is_dash c) c cs refl (apart cs)

nothing_past : (s : List ℕ) → drop (length s + 1) s ≡ []
nothing_past [] = refl
nothing_past (c ∷ cs) = let e : suc (length cs) + 1 ≡ suc (length cs + 1) = omega arith in rw e (nothing_past cs)

nameless : (o : Option ℕ) → name_of o None ≡ None
nameless None = refl
nameless (Some room) = refl

nothing_written : number_from [] ≡ None
unfolding number_from
nothing_written = refl

pub no_dash : (s : List ℕ) → position_or_len is_dash s ≡ length s → match_from s ≡ None
unfolding match_from
no_dash s h = rw (h, nothing_past s, nothing_written) (nameless (number_from (take (length s) s)))

within : (b : Bool) (n name : Name) → cond b (Some n) None ≡ Some name → (b ≡ true) × (n ≡ name)
within true n name e = (refl, cc)
within false n name e = absurd (cc)

named : (room serial : Option ℕ) (name : Name) → name_of room serial ≡ Some name → (room ≡ Some name.room) × (serial ≡ Some name.serial) × (name.room ≤ 63) × (1 ≤ name.serial)
named None serial name e = absurd (cc)
named (Some room) None name e = absurd (cc)
named (Some room) (Some serial) name e =
    let found = within (nat_le room 63 && nat_le 1 serial) (record { room = room; serial = serial }) name e in
    let both = and_parts (nat_le room 63) (nat_le 1 serial) found.0 in
    let rooms : room ≡ name.room = ap (λ n. n.room) found.1 in
    let serials : serial ≡ name.serial = ap (λ n. n.serial) found.1 in
    (ap Some rooms, ap Some serials, subst (λ x. x ≤ 63) rooms (leb-true room 63 both.0), subst (λ x. 1 ≤ x) serials (leb-true 1 serial both.1))

is_apart : (s : List ℕ) (n : ℕ) → number_from (after_first is_dash s) ≡ Some n → IsApart s → s ≡ before_first is_dash s ++ 45 ∷ after_first is_dash s
is_apart s n e (inl h) = h
is_apart s n e (inr h) = let none : number_from (after_first is_dash s) ≡ None = ap number_from h ∙ nothing_written in absurd (cc (none, e))

pub match_is : (s : List ℕ) (name : Name) → match_from s ≡ Some name → (s ≡ match_text name) × IsName name
unfolding match_from
match_is s name e =
    let parts = named (number_from (before_first is_dash s)) (number_from (after_first is_dash s)) name e in
    let room = number_is (before_first is_dash s) name.room parts.0 in
    let serial = number_is (after_first is_dash s) name.serial parts.1 in
    (is_apart s name.serial parts.1 (apart s) ∙ rw (room.0, serial.0) refl, (parts.2, parts.3, serial.1))
