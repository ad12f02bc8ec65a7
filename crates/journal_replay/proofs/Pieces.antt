-- Bytes are their lines, one after another.
use Rattle.std.proofs.Common.{◌≡◌, ◌==◌, ◌≤◌, ◌+◌, ◌++◌, ℕ, zero, suc, Bool, true, false, if◌then◌else◌, List, [], ◌∷◌, length, take, Some, None, refl, sym, ap, ◌∙◌, append_assoc, add-one}
use Rattle.std.specs.Prelude.{slice_get}
use Rattle.std.specs.List.{concat, onto_first}
use Rattle.std.proofs.lemmas.List.{append-nil, take_all}
use Rattle.game_sheet.specs.Lines.{lines}

none_some : {A : Type 0} (x : A) → None ≡ Some x → ⊥
none_some x e = cc

onto_bytes : (byte : ℕ) (ls : List (List ℕ)) → concat (onto_first byte ls) ≡ byte ∷ concat ls
onto_bytes byte [] = refl
onto_bytes byte (line ∷ more) = refl

concat_lines : (bytes : List ℕ) → concat (lines bytes) ≡ bytes
concat_lines [] = refl
concat_lines (byte ∷ bytes) = by (byte == 10) (concat_lines bytes)
  where
    by : (b : Bool) → concat (lines bytes) ≡ bytes → concat (if b then (byte ∷ []) ∷ lines bytes else onto_first byte (lines bytes)) ≡ byte ∷ bytes
    by true more = ap (λ l. byte ∷ l) more
    by false more = onto_bytes byte (lines bytes) ∙ ap (λ l. byte ∷ l) more

concat_next : (ls : List (List ℕ)) (i : ℕ) (line : List ℕ) → slice_get ls i ≡ Some line → concat (take (suc i) ls) ≡ concat (take i ls) ++ line
concat_next [] i line e = absurd (none_some line e)
concat_next (first ∷ ls) zero line e = let same : first ≡ line = cc in append-nil first ∙ same
concat_next (first ∷ ls) (suc i) line e = ap (λ l. first ++ l) (concat_next ls i line e) ∙ sym (append_assoc first (concat (take i ls)) line)

-- one line more
pub concat_more : (ls : List (List ℕ)) (i : ℕ) (line : List ℕ) → slice_get ls i ≡ Some line → concat (take (i + 1) ls) ≡ concat (take i ls) ++ line
concat_more ls i line e = ap (λ n. concat (take n ls)) (add-one i) ∙ concat_next ls i line e

-- all of them
pub lines_all : (bytes : List ℕ) (place : ℕ) → length (lines bytes) ≤ place → concat (take place (lines bytes)) ≡ bytes
lines_all bytes place all = ap concat (take_all place (lines bytes) all) ∙ concat_lines bytes
