-- The first line of some bytes, and bytes that are made of lines.
use Rattle.std.proofs.Common.{◌≡◌, ◌==◌, ◌++◌, ◌+◌, ◌<◌, ℕ, zero, suc, Bool, true, false, cond, List, [], ◌∷◌, length, map, take, drop, Some, arith, refl, sym, ap, subst, ◌∙◌, eqb-true, length-drop, drop-drop}
use Rattle.std.specs.Prelude.{slice_get}
use Rattle.std.specs.List.{concat, list_all, onto_first}
use Rattle.std.proofs.lemmas.Bool.{true≢false}
use Rattle.game_sheet.specs.Lines.{first_length, is_line, lines}
use Rattle.game_sheet.proofs.Passing.{both}

first_line_by : (b : Bool) (byte : ℕ) (bytes : List ℕ) → (0 < length bytes → lines bytes ≡ take (first_length bytes) bytes ∷ lines (drop (first_length bytes) bytes))
    → cond b ((byte ∷ []) ∷ lines bytes) (onto_first byte (lines bytes)) ≡ take (cond b 1 (suc (first_length bytes))) (byte ∷ bytes) ∷ lines (drop (cond b 1 (suc (first_length bytes))) (byte ∷ bytes))
first_line_by true byte bytes h = refl
first_line_by false byte [] h = refl
first_line_by false byte (next ∷ bytes) h = ap (onto_first byte) (h (omega arith))

pub first_line : (bytes : List ℕ) → 0 < length bytes → lines bytes ≡ take (first_length bytes) bytes ∷ lines (drop (first_length bytes) bytes)
first_line [] h = absurd (omega arith)
first_line (byte ∷ bytes) h = first_line_by (byte == 10) byte bytes (first_line bytes)

pub cut_at : (bytes : List ℕ) (n : ℕ) → n ≡ first_length bytes → 0 < length bytes → lines bytes ≡ take n bytes ∷ lines (drop n bytes)
cut_at bytes n e h = subst (λ m. lines bytes ≡ take m bytes ∷ lines (drop m bytes)) (sym e) (first_line bytes h)

-- past a byte that ends no line
pub longer : (byte : ℕ) (bytes : List ℕ) → (byte == 10) ≡ false → first_length (byte ∷ bytes) ≡ suc (first_length bytes)
longer byte bytes h = ap (λ b. cond b 1 (suc (first_length bytes))) h

-- at a byte that ends a line
pub ended : (byte : ℕ) (bytes : List ℕ) → (byte == 10) ≡ true → first_length (byte ∷ bytes) ≡ 1
ended byte bytes h = ap (λ b. cond b 1 (suc (first_length bytes))) h

-- past the first of the lines that are left
pub next_lines : (bytes rest : List ℕ) (place n : ℕ) → lines rest ≡ drop place (lines bytes) → place < length (lines bytes)
    → (0 < length rest → lines rest ≡ take n rest ∷ lines (drop n rest)) → lines (drop n rest) ≡ drop (place + 1) (lines bytes)
next_lines bytes [] place n e h f = let left = length-drop place (lines bytes) in let none = ap length e in absurd (omega (arith, left, none))
next_lines bytes (byte ∷ rest) place n e h f =
    let all = sym (f (omega arith)) ∙ e in
    ap (drop 1) all ∙ drop-drop 1 place (lines bytes)

-- the first of the lines that are left is the one at that place
pub line_there : (bytes rest : List ℕ) (place n : ℕ) → lines rest ≡ drop place (lines bytes) → place < length (lines bytes)
    → (0 < length rest → lines rest ≡ take n rest ∷ lines (drop n rest)) → slice_get (lines bytes) place ≡ Some (take n rest)
line_there bytes [] place n e h f = let left = length-drop place (lines bytes) in let none = ap length e in absurd (omega (arith, left, none))
line_there bytes (byte ∷ rest) place n e h f = at_front (lines bytes) place (take n (byte ∷ rest)) (lines (drop n (byte ∷ rest))) (sym e ∙ f (omega arith))
  where
    at_front : (all : List (List ℕ)) (place : ℕ) (line : List ℕ) (more : List (List ℕ)) → drop place all ≡ line ∷ more → slice_get all place ≡ Some line
    at_front [] zero line more e = cc
    at_front [] (suc place) line more e = cc
    at_front (first ∷ all) zero line more e = let same : first ≡ line = cc in ap Some same
    at_front (first ∷ all) (suc place) line more e = at_front all place line more e

line_front_by : (t : Bool) (byte : ℕ) (bytes rest : List ℕ) → (is_line bytes ≡ true → lines (bytes ++ rest) ≡ bytes ∷ lines rest) → cond t (length bytes == 0) (is_line bytes) ≡ true
    → cond t ((byte ∷ []) ∷ lines (bytes ++ rest)) (onto_first byte (lines (bytes ++ rest))) ≡ (byte ∷ bytes) ∷ lines rest
line_front_by true byte [] rest f h = refl
line_front_by true byte (next ∷ bytes) rest f h = let e = eqb-true (suc (length bytes)) 0 h in absurd (omega (arith, e))
line_front_by false byte bytes rest f h = ap (onto_first byte) (f h)

line_front : (line rest : List ℕ) → is_line line ≡ true → lines (line ++ rest) ≡ line ∷ lines rest
line_front [] rest h = absurd (true≢false (sym h))
line_front (byte ∷ bytes) rest h = line_front_by (byte == 10) byte bytes rest (line_front bytes rest) h

-- the lines of lines, one after another, are these
pub lines_of : {X : Type 0} (line : X → List ℕ) (xs : List X) → list_all (λ x. is_line (line x)) xs ≡ true → lines (concat (map line xs)) ≡ map line xs
lines_of line [] h = refl
lines_of line (x ∷ xs) h =
    let k = both (is_line (line x)) (list_all (λ x. is_line (line x)) xs) h in
    line_front (line x) (concat (map line xs)) k.0 ∙ ap (λ more. line x ∷ more) (lines_of line xs k.1)
