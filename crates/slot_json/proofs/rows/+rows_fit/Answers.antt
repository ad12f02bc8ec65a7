-- A name without a row doesn't fit.
use Rattle.std.proofs.Common.{arith}
use Rattle.std.proofs.lemmas.Grind.{common_steps}
use Rattle.slot_json.proofs.RowLaws.{fit_no_rows}
use Rattle.slot_json.proofs.rows.+rows_fit.Goals as goal
use Rattle.slot_json.proofs.rows.+rows_fit.Goals.{in_default-via-then-names-lt1, in_default-via-else-names-lt1+then-this-lt1}

pub returns-else-is_empty : goal.returns-else-is_empty
returns-else-is_empty t c = elim c.in_default.branch [
  | in_default-via-then-names-lt1 w ↦ grind (arith, common_steps, fit_no_rows)
  | in_default-via-else-names-lt1+then-this-lt1 w ↦ grind (arith, common_steps, fit_no_rows)
]
