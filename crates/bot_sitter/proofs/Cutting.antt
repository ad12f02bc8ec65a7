-- Bytes that end with a newline are cut there.
use Rattle.std.proofs.Common.{◌≡◌, ◌==◌, ◌++◌, ℕ, Bool, true, false, cond, List, [], ◌∷◌, refl, sym, ap, subst, ◌∙◌, append_assoc}
use Rattle.std.specs.List.{onto_first}
use Rattle.board_links.specs.Answers.{AreLines}
use Rattle.game_sheet.specs.Lines.{lines}
use Rattle.bot_sitter.specs.Hearing.{AreCut}

-- they have a first line
record HasFirst (bytes : List ℕ) : Type 0 where
  first : List ℕ
  more : List (List ℕ)
  is : lines bytes ≡ first ∷ more

first_by : (b : Bool) (byte : ℕ) (rest : List ℕ) → HasFirst rest → (first : List ℕ) × (more : List (List ℕ)) × (cond b ((byte ∷ []) ∷ lines rest) (onto_first byte (lines rest)) ≡ first ∷ more)
first_by true byte rest h = (byte ∷ [], lines rest, refl)
first_by false byte rest h = (byte ∷ h.first, h.more, ap (onto_first byte) h.is)

has_first : (before : List ℕ) → HasFirst (before ++ 10 ∷ [])
has_first [] = record { first = 10 ∷ []; more = []; is = refl }
has_first (byte ∷ before) =
    let h = first_by (byte == 10) byte (before ++ 10 ∷ []) (has_first before) in
    record { first = h.0; more = h.1; is = h.2 }

onto_more : (byte : ℕ) (ls first : List (List ℕ)) (line : List ℕ) (more : List (List ℕ)) → first ≡ line ∷ more → onto_first byte (first ++ ls) ≡ onto_first byte first ++ ls
onto_more byte ls first line more e = subst (λ f. onto_first byte (f ++ ls) ≡ onto_first byte f ++ ls) (sym e) refl

cut_by : (b : Bool) (byte : ℕ) (rest more : List ℕ) → HasFirst rest → lines (rest ++ more) ≡ lines rest ++ lines more
    → cond b ((byte ∷ []) ∷ lines (rest ++ more)) (onto_first byte (lines (rest ++ more))) ≡ cond b ((byte ∷ []) ∷ lines rest) (onto_first byte (lines rest)) ++ lines more
cut_by true byte rest more h e = ap (λ ls. (byte ∷ []) ∷ ls) e
cut_by false byte rest more h e = ap (onto_first byte) e ∙ onto_more byte (lines more) (lines rest) h.first h.more h.is

cut_ended : (before more : List ℕ) → lines ((before ++ 10 ∷ []) ++ more) ≡ lines (before ++ 10 ∷ []) ++ lines more
cut_ended [] more = refl
cut_ended (byte ∷ before) more = cut_by (byte == 10) byte (before ++ 10 ∷ []) more (has_first before) (cut_ended before more)

pub cut_lines : (bytes : List ℕ) → AreLines bytes → AreCut bytes
cut_lines bytes h = subst AreCut (sym h.1) (cut_ended h.0)

pub cut_both : (a b : List ℕ) → AreCut a → AreCut b → AreCut (a ++ b)
cut_both a b h k more =
    ap lines (append_assoc a b more) ∙ h (b ++ more) ∙ ap (λ ls. lines a ++ ls) (k more)
    ∙ sym (append_assoc (lines a) (lines b) (lines more)) ∙ ap (λ ls. ls ++ lines more) (sym (h b))
