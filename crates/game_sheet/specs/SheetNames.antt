-- Names on a sheet: each finds the first row of its table that has it.
use Rattle.std.specs.Prelude.{ℕ, List, Option, position}
use Rattle.std.specs.Str.{bytes_eq}
use Rattle.game_sheet.specs.declared.sheet.MoveRow.{MoveRow}
use Rattle.game_sheet.specs.declared.sheet.PhaseRow.{PhaseRow}
use Rattle.game_sheet.specs.declared.sheet.Sheet.{Sheet}
use Rattle.game_sheet.specs.declared.sheet.StageRow.{StageRow}

-- the place of the first row with a name
abbrev pub place_of : {Row : Type 0} → (Row → List ℕ) → List Row → List ℕ → Option ℕ
place_of name rows wanted = position (λ row. bytes_eq (name row) wanted) rows

abbrev pub move_of : Sheet → List ℕ → Option ℕ
move_of sheet wanted = place_of (λ (row : MoveRow). row.name) sheet.moves wanted

abbrev pub phase_of : Sheet → List ℕ → Option ℕ
phase_of sheet wanted = place_of (λ (row : PhaseRow). row.name) sheet.phases wanted

abbrev pub stage_of : Sheet → List ℕ → Option ℕ
stage_of sheet wanted = place_of (λ (row : StageRow). row.name) sheet.stages wanted
