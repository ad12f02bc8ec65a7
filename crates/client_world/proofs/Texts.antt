-- Which lines are texts, and where a text is cut.
use Rattle.std.proofs.Common.{◌≡◌, ◌==◌, ◌<◌, ℕ, Bool, true, false, if◌then◌else◌, List, [], ◌∷◌, length, Option, Some, None, IsUtf8, arith, refl, sym, ap, ◌∙◌}
use Rattle.std.specs.Prelude.{MatchOption, option_map, slice_get}
use Rattle.std.specs.Borrow.{Bor}
use Rattle.std.specs.List.{position_or_len, before_first, after_first}
use Rattle.std.specs.Str.{is_utf8}
use Rattle.std.proofs.lemmas.Bool.{eq-eqb, eqb-true}
use Rattle.std.proofs.lemmas.Str.{IsUtf8-from_is_utf8, is_utf8-from_IsUtf8}
use Rattle.std.proofs.lemmas.Str.Pattern.{IsSplitOnceResult, split_once_first}
use Rattle.world_history.specs.World.{Nothing}
use Rattle.client_world.specs.Reading.{cut, is_blank, step_in, world_step_of}

pub is_text : (line : List ℕ) → IsUtf8 line → is_utf8 line ≡ true
is_text line h = is_utf8-from_IsUtf8 line h

no_text_by : (line : List ℕ) (b : Bool) → is_utf8 line ≡ b → ¬ (IsUtf8 line) → is_utf8 line ≡ false
no_text_by line true e isnt = absurd (isnt (IsUtf8-from_is_utf8 line e))
no_text_by line false e isnt = e

pub is_no_text : (line : List ℕ) → ¬ (IsUtf8 line) → is_utf8 line ≡ false
is_no_text line isnt = no_text_by line (is_utf8 line) refl isnt

abbrev pub Halves : Type 0
Halves = Option (Bor (List ℕ) × Bor (List ℕ))

abbrev pub halves : Halves → Option (List ℕ × List ℕ)
halves r = option_map (λ p. (p.0.now, p.1.now)) r

cut_by : (text : List ℕ) (r : Halves)
    → MatchOption r (position_or_len is_blank text ≡ length text) (λ x. (position_or_len is_blank text < length text) × (x.0.now ≡ before_first is_blank text) × (x.1.now ≡ after_first is_blank text))
    → halves r ≡ cut text
cut_by text None h = rw (eq-eqb (position_or_len is_blank text) (length text) h) refl
cut_by text (Some p) h =
    let apart : (position_or_len is_blank text == length text) ≡ false = grind (arith, h.0) in
    rw apart (ap Some (ap (λ x. (x, p.1.now)) h.1 ∙ ap (λ y. (before_first is_blank text, y)) h.2))

pub cut_is : (text : List ℕ) (r : Halves) → IsSplitOnceResult 32 text r → halves r ≡ cut text
cut_is text r h = cut_by text r (split_once_first 32 text r h (omega arith))

-- ---- a line that is a text and begins with no mark of a remark

not_by : (t : Bool) (b : ℕ) → (b == 35) ≡ t → (b ≡ 35 → ⊥) → t ≡ false
not_by true b e isnt = absurd (isnt (eqb-true b 35 e))
not_by false b e isnt = refl

third : {A : Type 0} (t u : Bool) (x y z : A) → t ≡ false → u ≡ true → (if t then x else if u then y else z) ≡ y
third t u x y z e f = ap (λ s. if s then x else if u then y else z) e ∙ ap (λ s. if s then y else z) f

pub text_step : (line : List ℕ) (first : ℕ) (text : List ℕ) → Some first ≡ slice_get line 0 → (first ≡ 35 → ⊥) → text ≡ line → IsUtf8 line → step_in text ≡ world_step_of line
unfolding world_step_of
text_step [] first text e isnt same utf8 = absurd (cc)
text_step (b ∷ rest) first text e isnt same utf8 =
    let other : b ≡ 35 → ⊥ = λ q. isnt (cc) in
    ap step_in same ∙ sym (third (b == 35) (is_utf8 (b ∷ rest)) (Some Nothing) (step_in (b ∷ rest)) None (not_by (b == 35) b refl other) (is_text (b ∷ rest) utf8))
