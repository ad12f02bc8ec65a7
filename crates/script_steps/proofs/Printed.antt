-- How lines that are printed stand behind the number of their session.
use Rattle.std.proofs.Common.{◌≡◌, ◌==◌, ◌+◌, ◌<◌, ◌≤◌, ℕ, zero, suc, Bool, true, false, List, [], ◌∷◌, ◌++◌, length, take, drop, slice_index, codes, Some, None, refl, sym, ap, ◌∙◌, append_assoc, append-nil, add-one, arith}
use Rattle.std.specs.Prelude.{slice_get}
use Rattle.std.specs.List.{flat_map}
use Rattle.std.proofs.Math.Seq.{take-suc}
use Rattle.std.proofs.lemmas.Grind.{flat_map-append}
use Rattle.std.proofs.lemmas.List.{take_all}
use Rattle.std.proofs.lemmas.Option.{slice_get_within, get_or_from_slice_get}
use Rattle.json.specs.Print.{escape_byte}
use Rattle.memchr.specs.Find.{IsFirstByte, is_byte}
use Rattle.game_sheet.specs.Lines.{first_length, lines}
use Rattle.game_sheet.proofs.Cut.{cut_at, ended, longer}
use Rattle.game_hall.specs.Answers.{line_of}
use Rattle.game_hall.specs.declared.answer.Answer.TheVariants as answer
use Rattle.wire_json.specs.ServerText.{text}
use Rattle.wire_json.specs.declared.refusal.Refusal.TheVariants as refusal
use Rattle.hall_history.specs.Script.{all_to_session, to_session}

pub not_attached : codes "{\"field\":null,\"reason\":\"not-attached\",\"type\":\"refused\"}\n" ≡ line_of (answer.Refused refusal.NotAttached)
unfolding text escape_byte
not_attached = refl

-- ---- the end of the first line

not_so : (b : Bool) → (b ≡ true → ⊥) → b ≡ false
not_so true n = absurd (n refl)
not_so false n = refl

found_at : (bytes : List ℕ) (k : ℕ) → k < length bytes → ((i : ℕ) → 0 ≤ i → i < k → ((slice_index bytes i == 10) ≡ true) → ⊥) → (slice_index bytes k == 10) ≡ true
    → k + 1 ≡ first_length bytes
found_at [] k h before here = absurd (omega arith)
found_at (byte ∷ bytes) zero h before here = sym (ended byte bytes here)
found_at (byte ∷ bytes) (suc k) h before here =
    let there = found_at bytes k (omega arith) (λ i low high e. before (suc i) (omega arith) (omega arith) e) here in
    let first = longer byte bytes (not_so (byte == 10) (before 0 (omega arith) (omega arith))) in
    omega (arith, there, first)

found_nowhere : (bytes : List ℕ) → ((i : ℕ) → 0 ≤ i → i < length bytes → ((slice_index bytes i == 10) ≡ true) → ⊥) → length bytes ≡ first_length bytes
found_nowhere [] nowhere = refl
found_nowhere (byte ∷ bytes) nowhere =
    let there = found_nowhere bytes (λ i low high e. nowhere (suc i) (omega arith) (omega arith) e) in
    let first = longer byte bytes (not_so (byte == 10) (nowhere 0 (omega arith) (omega arith))) in
    omega (arith, there, first)

pub cut_found : (bytes : List ℕ) (k : ℕ) → IsFirstByte (is_byte 10) bytes (Some k) → 0 < length bytes → lines bytes ≡ take (k + 1) bytes ∷ lines (drop (k + 1) bytes)
cut_found bytes k f some = cut_at bytes (k + 1) (found_at bytes k f.0.high f.0.before f.1) some

pub cut_whole : (bytes : List ℕ) → IsFirstByte (is_byte 10) bytes None → 0 < length bytes → lines bytes ≡ take (length bytes) bytes ∷ lines (drop (length bytes) bytes)
cut_whole bytes f some = cut_at bytes (length bytes) (found_nowhere bytes f) some

-- ---- lines one after another

-- one line more, by its place
pub line_more : (pass : ℕ) (ls : List (List ℕ)) (place : ℕ) (line : List ℕ) → slice_get ls place ≡ Some line
    → flat_map (to_session pass) (take place ls) ++ to_session pass line ≡ flat_map (to_session pass) (take (place + 1) ls)
line_more pass ls place line h =
    let more : take (place + 1) ls ≡ take place ls ++ line ∷ [] =
    ap (λ n. take n ls) (add-one place) ∙ take-suc ls place [] (slice_get_within ls place line h) ∙ ap (λ l. take place ls ++ l ∷ []) (get_or_from_slice_get ls place line [] h) in
    ap (λ x. flat_map (to_session pass) (take place ls) ++ x) (sym (append-nil (to_session pass line)))
    ∙ sym (flat_map-append (to_session pass) (take place ls) (line ∷ [])) ∙ ap (flat_map (to_session pass)) (sym more)

pub place_more : (pass : ℕ) (start text : List ℕ) (ls : List (List ℕ)) (place : ℕ) (line : List ℕ) → slice_get ls place ≡ Some line
    → text ≡ start ++ flat_map (to_session pass) (take place ls) → text ++ to_session pass line ≡ start ++ flat_map (to_session pass) (take (place + 1) ls)
place_more pass start text ls place line h so_far =
    ap (λ t. t ++ to_session pass line) so_far ∙ append_assoc start (flat_map (to_session pass) (take place ls)) (to_session pass line)
    ∙ ap (λ x. start ++ x) (line_more pass ls place line h)

pub all_lines : (pass : ℕ) (bytes : List ℕ) (place : ℕ) → length (lines bytes) ≤ place → flat_map (to_session pass) (take place (lines bytes)) ≡ all_to_session pass bytes
all_lines pass bytes place h = ap (flat_map (to_session pass)) (take_all place (lines bytes) h)
