-- A newline at the end of a text changes nothing that is read of it: it is a blank, it ends a word, and a string that isn't closed stays so.
use Rattle.std.proofs.Common.{◌≡◌, ℕ, suc, ◌+◌, ◌-◌, List, [], ◌∷◌, ◌++◌, length, drop, Bool, true, false, not, cond, ◌&&◌, ◌||◌, ◌==◌, nat_eq, Option, Some, None, option_map, option_and_then, refl, ap, arith, length-append}
use Rattle.std.proofs.lemmas.Bool.{false≢true}
use Rattle.std.proofs.lemmas.List.{take-append-le}
use Rattle.std.specs.List.{prefix_len, starts_with, list_all}
use Rattle.std.specs.Char.{is_ascii_digit, is_digit, encode_utf8}
use Rattle.json.specs.Token.{Token, boolean, null, bad}
use Rattle.json.specs.Text.{Within, plain, after_backslash, after_u, after_high, content, code_unit, short_escape, prepend, is_high_surrogate, is_low_surrogate}
use Rattle.json.specs.Word.{ends_word, after_digits, after_minus, after_sign, after_whole, after_fraction, after_exponent, after_number, number_before, literal, word}
use Rattle.json.specs.Lex.{Class, quote, backslash, operator, space, other, class, Mode, between, in_word, in_string, in_escape, token, string_token, operator_lexeme, lex_byte, lex, fresh, punctuate}
use Rattle.json.specs.Json as json
use Rattle.json.specs.Ascii as ascii
use Rattle.serde_json.specs.Read.{read, of_json, max_depth}
use Rattle.json_tree.specs.Lines.{newline}

-- ---- strings

no_digit : (a b c : ℕ) → code_unit a b c 10 ≡ None
unfolding code_unit
no_digit a b c = three (is_digit a 16) (is_digit b 16) (is_digit c 16) _
  where
    three : (p q r : Bool) (x : ℕ) → cond (p && q && r && false) (Some x) None ≡ None
    three true true true x = refl
    three true true false x = refl
    three true false r x = refl
    three false q r x = refl

either_none : {A : Type 0} (b : Bool) → cond {A = Option A} b None None ≡ None
either_none true = refl
either_none false = refl

-- what follows the code unit of an escape
abbrev after_unit : ℕ → List ℕ → Option (List ℕ)
after_unit u xs = cond (is_high_surrogate u) (content (after_high u) xs) (cond (is_low_surrogate u) None (prepend (encode_utf8 u) (content plain xs)))

unit_same : (o : Option ℕ) (xs : List ℕ) → ((u : ℕ) → content (after_high u) (xs ++ newline) ≡ content (after_high u) xs) → content plain (xs ++ newline) ≡ content plain xs
    → option_and_then (λ u. after_unit u (xs ++ newline)) o ≡ option_and_then (λ u. after_unit u xs) o
unit_same None xs high low = refl
unit_same (Some u) xs high low = rw (high u, low) refl

pub content_newline : (w : Within) (t : List ℕ) → content w (t ++ newline) ≡ content w t
unfolding content short_escape
content_newline plain [] = refl
content_newline plain (x ∷ xs) = rw (content_newline after_backslash xs, content_newline plain xs) refl
content_newline after_backslash [] = refl
content_newline after_backslash (x ∷ xs) = rw (content_newline after_u xs, content_newline plain xs) refl
content_newline after_u [] = refl
content_newline after_u (a ∷ []) = refl
content_newline after_u (a ∷ b ∷ []) = refl
content_newline after_u (a ∷ b ∷ c ∷ []) = rw no_digit refl
content_newline after_u (a ∷ b ∷ c ∷ d ∷ xs) = unit_same (code_unit a b c d) xs (λ u. content_newline (after_high u) xs) (content_newline plain xs)
content_newline (after_high h) [] = refl
content_newline (after_high h) (s ∷ []) = refl
content_newline (after_high h) (s ∷ u ∷ []) = refl
content_newline (after_high h) (s ∷ u ∷ a ∷ []) = refl
content_newline (after_high h) (s ∷ u ∷ a ∷ b ∷ []) = refl
content_newline (after_high h) (s ∷ u ∷ a ∷ b ∷ c ∷ []) = rw no_digit (either_none ((s == ascii.backslash) && (u == ascii.lower_u)))
content_newline (after_high h) (s ∷ u ∷ a ∷ b ∷ c ∷ d ∷ xs) = simp (content_newline plain xs) refl

-- ---- words

prefix_newline : (t : List ℕ) → prefix_len is_ascii_digit (t ++ newline) ≡ prefix_len is_ascii_digit t
prefix_newline [] = refl
prefix_newline (x ∷ xs) = ap (λ n. cond (is_ascii_digit x) (1 + n) 0) (prefix_newline xs)

drop_prefix_at : (d : Bool) (x : ℕ) (xs : List ℕ) (n : ℕ) → drop n (xs ++ newline) ≡ drop n xs ++ newline
    → drop (cond d (1 + n) 0) (x ∷ (xs ++ newline)) ≡ drop (cond d (1 + n) 0) (x ∷ xs) ++ newline
drop_prefix_at false x xs n ih = refl
drop_prefix_at true x xs n ih = let e : 1 + n ≡ suc n = omega arith in rw e ih

drop_prefix : (t : List ℕ) → drop (prefix_len is_ascii_digit t) (t ++ newline) ≡ drop (prefix_len is_ascii_digit t) t ++ newline
drop_prefix [] = refl
drop_prefix (x ∷ xs) = drop_prefix_at (is_ascii_digit x) x xs (prefix_len is_ascii_digit xs) (drop_prefix xs)

-- what is left has the newline at its end
abbrev kept : Option (List ℕ) → Option (List ℕ)
kept o = option_map (λ r. r ++ newline) o

kept_cond : (b : Bool) (x y : Option (List ℕ)) → cond b (kept x) (kept y) ≡ kept (cond b x y)
kept_cond true x y = refl
kept_cond false x y = refl

kept_and_then : (f : List ℕ → Option (List ℕ)) → ((t : List ℕ) → f (t ++ newline) ≡ kept (f t)) → (o : Option (List ℕ)) → option_and_then f (kept o) ≡ kept (option_and_then f o)
kept_and_then f h None = refl
kept_and_then f h (Some t) = h t

longer_cond : (b : Bool) (x y : List ℕ) → cond b (x ++ newline) (y ++ newline) ≡ cond b x y ++ newline
longer_cond true x y = refl
longer_cond false x y = refl

after_digits_newline : (t : List ℕ) → after_digits (t ++ newline) ≡ kept (after_digits t)
after_digits_newline t = rw (prefix_newline t, drop_prefix t) (kept_cond (prefix_len is_ascii_digit t == 0) None (Some (drop (prefix_len is_ascii_digit t) t)))

after_minus_newline : (t : List ℕ) → after_minus (t ++ newline) ≡ after_minus t ++ newline
after_minus_newline [] = refl
after_minus_newline (x ∷ xs) = longer_cond (x == ascii.minus) xs (x ∷ xs)

after_sign_newline : (t : List ℕ) → after_sign (t ++ newline) ≡ after_sign t ++ newline
after_sign_newline [] = refl
after_sign_newline (x ∷ xs) = longer_cond ((x == ascii.minus) || (x == ascii.plus)) xs (x ∷ xs)

after_whole_newline : (t : List ℕ) → after_whole (t ++ newline) ≡ kept (after_whole t)
after_whole_newline [] = refl
after_whole_newline (x ∷ xs) = rw (after_digits_newline (x ∷ xs)) (kept_cond (x == ascii.zero) (Some xs) (after_digits (x ∷ xs)))

after_fraction_newline : (t : List ℕ) → after_fraction (t ++ newline) ≡ kept (after_fraction t)
after_fraction_newline [] = refl
after_fraction_newline (x ∷ xs) = rw (after_digits_newline xs) (kept_cond (x == ascii.dot) (after_digits xs) (Some (x ∷ xs)))

after_exponent_newline : (t : List ℕ) → after_exponent (t ++ newline) ≡ kept (after_exponent t)
after_exponent_newline [] = refl
after_exponent_newline (x ∷ xs) =
    rw (after_sign_newline xs, after_digits_newline (after_sign xs)) (kept_cond ((x == ascii.lower_e) || (x == ascii.upper_e)) (after_digits (after_sign xs)) (Some (x ∷ xs)))

after_number_newline : (t : List ℕ) → after_number (t ++ newline) ≡ kept (after_number t)
unfolding after_number
after_number_newline t =
    rw (after_minus_newline t, after_whole_newline (after_minus t), kept_and_then after_fraction after_fraction_newline (after_whole (after_minus t)))
    (kept_and_then after_exponent after_exponent_newline (option_and_then after_fraction (after_whole (after_minus t))))

ends_word_newline : (t : List ℕ) → ends_word (t ++ newline) ≡ ends_word t
ends_word_newline [] = refl
ends_word_newline (x ∷ xs) = refl

number_newline : (t : List ℕ) (o : Option (List ℕ)) → number_before (t ++ newline) (kept o) ≡ number_before t o
number_newline t None = refl
number_newline t (Some r) =
    let same : length (t ++ newline) - length (r ++ newline) ≡ length t - length r = omega (arith, length-append t newline, length-append r newline) in
    rw (ends_word_newline r, same, take-append-le (length t - length r) t newline (omega arith)) refl

-- a name that has no newline in it

split : (e p q r s : Bool) → (p && q) ≡ (r && s) → ((e && p) && q) ≡ ((e && r) && s)
split true p q r s h = h
split false p q r s h = refl

no_newline : (c : ℕ) (rest : Bool) → (not (c == 10) && rest) ≡ true → ((c == 10) ≡ false) × (rest ≡ true)
no_newline c rest h = parts (c == 10) rest h
  where
    parts : (b r : Bool) → (not b && r) ≡ true → (b ≡ false) × (r ≡ true)
    parts true r h = absurd (false≢true h)
    parts false r h = (refl, h)

name_newline : (name : List ℕ) → list_all (λ c. not (c == 10)) name ≡ true → (t : List ℕ)
    → (starts_with nat_eq (t ++ newline) name && ends_word (drop (length name) (t ++ newline))) ≡ (starts_with nat_eq t name && ends_word (drop (length name) t))
name_newline [] h t = ends_word_newline t
name_newline (c ∷ name) h [] = rw ((no_newline c _ h).0) refl
name_newline (c ∷ name) h (x ∷ xs) = split (nat_eq c x) _ _ _ _ (name_newline name (no_newline c _ h).1 xs)

literal_newline : (name : List ℕ) (k : Token) → list_all (λ c. not (c == 10)) name ≡ true → (t : List ℕ) → literal name k (t ++ newline) ≡ literal name k t
literal_newline name k h t = ap (λ b. cond b k bad) (name_newline name h t)

pub word_newline : (x : ℕ) (xs : List ℕ) → word (x ∷ (xs ++ newline)) ≡ word (x ∷ xs)
unfolding word
word_newline x xs =
    rw (
      literal_newline ascii.true_text (boolean true) refl (x ∷ xs),
      literal_newline ascii.false_text (boolean false) refl (x ∷ xs),
      literal_newline ascii.null_text null refl (x ∷ xs),
      after_number_newline (x ∷ xs),
      number_newline (x ∷ xs) (after_number (x ∷ xs)),
    )
    refl

-- ---- the whole text

lex_step : (m : Mode) (c : Class) (x : ℕ) (xs : List ℕ) → ((n : Mode) → lex n (xs ++ newline) ≡ lex n xs)
    → lex_byte m c x (xs ++ newline) (λ next. lex next (xs ++ newline)) ≡ lex_byte m c x xs (λ next. lex next xs)
lex_step between quote x xs ih = rw (content_newline plain xs) (ap (λ ls. token (string_token (content plain xs)) ∷ ls) (ih in_string))
lex_step between backslash x xs ih = ap (λ ls. token bad ∷ ls) (ih in_word)
lex_step between operator x xs ih = ap (λ ls. operator_lexeme x ∷ ls) (ih between)
lex_step between space x xs ih = ih between
lex_step between other x xs ih = rw (word_newline x xs) (ap (λ ls. token (word (x ∷ xs)) ∷ ls) (ih in_word))
lex_step in_word quote x xs ih = ih in_word
lex_step in_word backslash x xs ih = ih in_word
lex_step in_word operator x xs ih = ap (λ ls. operator_lexeme x ∷ ls) (ih between)
lex_step in_word space x xs ih = ih between
lex_step in_word other x xs ih = ih in_word
lex_step in_string quote x xs ih = ih between
lex_step in_string backslash x xs ih = ih in_escape
lex_step in_string operator x xs ih = ih in_string
lex_step in_string space x xs ih = ih in_string
lex_step in_string other x xs ih = ih in_string
lex_step in_escape c x xs ih = ih in_string

pub lex_newline : (m : Mode) (t : List ℕ) → lex m (t ++ newline) ≡ lex m t
unfolding lex
lex_newline between [] = refl
lex_newline in_word [] = refl
lex_newline in_string [] = refl
lex_newline in_escape [] = refl
lex_newline m (x ∷ xs) = lex_step m (class x) x xs (λ n. lex_newline n xs)

-- a text with a newline at its end reads as the text does
pub read_newline : (t : List ℕ) → read (t ++ newline) ≡ read t
read_newline t = ap (λ ls. option_and_then of_json (option_and_then (λ p. json.if_last p.0 p.1) (json.value max_depth (punctuate fresh ls)))) (lex_newline between t)
