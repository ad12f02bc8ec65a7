-- Lines as frames, one after another.
use Rattle.std.proofs.Common.{◌≡◌, ◌<◌, ◌≤◌, ◌==◌, ◌+◌, ℕ, zero, suc, List, [], ◌∷◌, ◌++◌, Bool, true, false, None, Some, refl, sym, subst, append-nil, length, take, drop, slice_index, arith}
use Rattle.memchr.specs.Find.{IsFirstByte, is_byte}
use Rattle.game_sheet.specs.Lines.{first_length, lines}
use Rattle.game_sheet.proofs.Cut.{cut_at, ended, longer}
use Rattle.tungstenite.specs.Connection.{Connection}
use Rattle.ws_link.specs.Frames.{frames_of}

-- ---- the end of the first line

not_so : (b : Bool) → (b ≡ true → ⊥) → b ≡ false
not_so true n = absurd (n refl)
not_so false n = refl

found_at : (bytes : List ℕ) (k : ℕ) → k < length bytes → ((i : ℕ) → 0 ≤ i → i < k → ((slice_index bytes i == 10) ≡ true) → ⊥) → (slice_index bytes k == 10) ≡ true
    → k + 1 ≡ first_length bytes
found_at [] k h before here = absurd (omega arith)
found_at (byte ∷ bytes) zero h before here = sym (ended byte bytes here)
found_at (byte ∷ bytes) (suc k) h before here =
    let there = found_at bytes k (omega arith) (λ i low high e. before (suc i) (omega arith) (omega arith) e) here in
    let first = longer byte bytes (not_so (byte == 10) (before 0 (omega arith) (omega arith))) in
    omega (arith, there, first)

found_nowhere : (bytes : List ℕ) → ((i : ℕ) → 0 ≤ i → i < length bytes → ((slice_index bytes i == 10) ≡ true) → ⊥) → length bytes ≡ first_length bytes
found_nowhere [] nowhere = refl
found_nowhere (byte ∷ bytes) nowhere =
    let there = found_nowhere bytes (λ i low high e. nowhere (suc i) (omega arith) (omega arith) e) in
    let first = longer byte bytes (not_so (byte == 10) (nowhere 0 (omega arith) (omega arith))) in
    omega (arith, there, first)

pub cut_found : (bytes : List ℕ) (k : ℕ) → IsFirstByte (is_byte 10) bytes (Some k) → 0 < length bytes → lines bytes ≡ take (k + 1) bytes ∷ lines (drop (k + 1) bytes)
cut_found bytes k f some = cut_at bytes (k + 1) (found_at bytes k f.0.high f.0.before f.1) some

pub cut_whole : (bytes : List ℕ) → IsFirstByte (is_byte 10) bytes None → 0 < length bytes → lines bytes ≡ take (length bytes) bytes ∷ lines (drop (length bytes) bytes)
cut_whole bytes f some = cut_at bytes (length bytes) (found_nowhere bytes f) some

-- ---- how far a send has come: the frames of the first lines, and the connection as it was
abbrev pub Saying : Connection → Connection → List ℕ → List ℕ → List ℕ → Type 0
Saying old now frames whole rest = (now ≡ old) × (frames ++ frames_of rest ≡ frames_of whole)
