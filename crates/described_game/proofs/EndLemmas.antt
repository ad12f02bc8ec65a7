-- One way more in which a match ends.
use Rattle.std.proofs.Common.{◌≡◌, ℕ, ◌+◌, ◌<◌, List, [], ◌∷◌, length, get_or, drop, Option, sym, ap, ◌∙◌}
use Rattle.std.proofs.lemmas.List.{drop_more}
use Rattle.described_game.specs.Hooks.{either_end, end_by, first_end}
use Rattle.described_game.specs.declared.parts.EndCode.{EndCode}
use Rattle.game_code.specs.Meaning.{value_of}
use Rattle.game_code.specs.Setting.{Setting}
use Rattle.game_sheet.specs.declared.act.Outcome.{Outcome}
use Rattle.game_slots.specs.declared.table.Table.{Table}

-- what those from a place on say, by the one at that place
pub end_more : (codes : List EndCode) (i : ℕ) (code : EndCode) (s : Setting) (table : Table) (outcome end : Option Outcome) → i < length codes → code ≡ get_or codes i code
    → outcome ≡ end_by code.kind s.context.seats (value_of code.value s table [] []) → first_end (drop i codes) s table ≡ end → either_end outcome (first_end (drop (i + 1) codes) s table) ≡ end
end_more codes i code s table outcome end below here is known =
    let first : drop i codes ≡ code ∷ drop (i + 1) codes = drop_more codes i code below ∙ ap (λ (c : EndCode). c ∷ drop (i + 1) codes) (sym here) in
    ap (λ (o : Option Outcome). either_end o (first_end (drop (i + 1) codes) s table)) is ∙ sym (ap (λ (cs : List EndCode). first_end cs s table) first) ∙ known
