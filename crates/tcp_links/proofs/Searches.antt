-- A search for a newline that begins at a place before which none stands.
use Rattle.std.proofs.Common.{◌≡◌, ◌∙◌, ◌==◌, ◌+◌, ◌-◌, ◌<◌, ◌≤◌, ℕ, List, length, drop, take, slice_index, sym, ap, subst, inl, inr, arith, length-drop}
use Rattle.std.proofs.lemmas.Bool.{cases_lt, eqb-true}
use Rattle.std.proofs.lemmas.List.{get_or-drop, take_rest}
use Rattle.memchr.specs.Find.{NoneBefore, Nowhere, Passes, is_byte}
use Rattle.tcp_links.specs.Newlines.{NoNewline}

-- the byte at a place counted from another one
byte_at : (bytes : List ℕ) (from place : ℕ) → from ≤ place → slice_index (drop from bytes) (place - from) ≡ slice_index bytes place
byte_at bytes from place behind =
    get_or-drop from bytes (place - from) 0 ∙ ap (λ j. slice_index bytes j) (omega (arith, behind))

-- no newline before a place, nor at so many places from there on
further : (bytes : List ℕ) (from count : ℕ) → NoNewline bytes from → Nowhere (Passes (is_byte 10) (drop from bytes)) 0 count → NoNewline bytes (from + count)
further bytes from count before after k inside newline =
    elim (cases_lt k from) [
      | inl early ↦ before k early newline
      | inr late ↦ after (k - from) (omega arith) (omega (arith, late, inside)) (ap (λ byte. byte == 10) (byte_at bytes from k late ∙ newline))
    ]

-- where the search finds nothing
pub none_found : (bytes : List ℕ) (from : ℕ) → from ≤ length bytes → NoNewline bytes from
    → Nowhere (Passes (is_byte 10) (take (length bytes - from) (drop from bytes))) 0 (length (take (length bytes - from) (drop from bytes)))
    → NoNewline bytes (length bytes)
none_found bytes from inside before after =
    let Missed : List ℕ → Type 0 = λ rest. Nowhere (Passes (is_byte 10) rest) 0 (length rest) in
    let missed : Missed (drop from bytes) = subst Missed (take_rest bytes from) after in
    let all : from + length (drop from bytes) ≡ length bytes = ap (λ n. from + n) (length-drop from bytes) ∙ omega (arith, inside) in
    subst (NoNewline bytes) all (further bytes from (length (drop from bytes)) before missed)

-- where it finds one
pub one_found : (bytes : List ℕ) (from place : ℕ) → from ≤ length bytes → NoNewline bytes from
    → NoneBefore (Passes (is_byte 10) (take (length bytes - from) (drop from bytes))) 0 (length (take (length bytes - from) (drop from bytes))) place
    → Passes (is_byte 10) (take (length bytes - from) (drop from bytes)) place
    → (from + place < length bytes) × NoNewline bytes (from + place) × (slice_index bytes (from + place) ≡ 10)
one_found bytes from place inside before first is =
    let Missed : List ℕ → Type 0 = λ rest. NoneBefore (Passes (is_byte 10) rest) 0 (length rest) place in
    let found : Missed (drop from bytes) = subst Missed (take_rest bytes from) first in
    let Here : List ℕ → Type 0 = λ rest. Passes (is_byte 10) rest place in
    let here : Here (drop from bytes) = subst Here (take_rest bytes from) is in
    let room : place < length bytes - from = subst (λ n. place < n) (length-drop from bytes) found.high in (
      omega (arith, room),
      further bytes from place before found.before,
      sym (get_or-drop from bytes place 0) ∙ eqb-true (slice_index (drop from bytes) place) 10 here,
    )
