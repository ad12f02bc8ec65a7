-- Bytes that are a text or aren't, and an array that holds a short text.
use Rattle.std.proofs.Common.{◌≡◌, ◌&&◌, ℕ, true, false, nat_le, List, length, take, IsUtf8, sym, ap, ◌∙◌, inl, inr}
use Rattle.std.specs.Str.{is_utf8}
use Rattle.std.proofs.lemmas.Bool.{cases_Bool}
use Rattle.std.proofs.lemmas.Str.{IsUtf8-from_is_utf8, is_utf8-from_IsUtf8}
use Rattle.std.proofs.Math.Seq.{take-append_seam}
use Rattle.game_sheet.specs.Short.{is_plain, is_short, padded}
use Rattle.game_sheet.proofs.Passing.{both}

pub is_text : (bytes : List ℕ) → IsUtf8 bytes → true ≡ is_utf8 bytes
is_text bytes h = sym (is_utf8-from_IsUtf8 bytes h)

pub is_no_text : (bytes : List ℕ) → ¬ (IsUtf8 bytes) → false ≡ is_utf8 bytes
is_no_text bytes h = elim (cases_Bool (is_utf8 bytes)) [
  | inl t ↦ absurd (h (IsUtf8-from_is_utf8 bytes t))
  | inr f ↦ sym f
]

pub short_text : (bytes : List ℕ) → is_short bytes ≡ true → IsUtf8 bytes
short_text bytes h = IsUtf8-from_is_utf8 bytes (both (nat_le (length bytes) 64 && is_plain bytes) (is_utf8 bytes) h).1

-- the front of an array that holds a text is the text
pub front : (text : List ℕ) → take (length text) (padded text) ≡ text
front text = take-append_seam text _

-- an array that holds a short text with zeros behind it is what a short text is kept in
pub kept_well : (text kept : List ℕ) → kept ≡ padded text → is_short text ≡ true → (kept ≡ padded (take (length text) kept)) × (length (take (length text) kept) ≡ length text) × (is_short (take (length text) kept) ≡ true)
kept_well text kept e h =
    let at : take (length text) kept ≡ text = ap (take (length text)) e ∙ front text in
    (e ∙ ap padded (sym at), ap length at, ap is_short at ∙ h)
