-- One row more is taken, or none is left.
use Rattle.std.proofs.Common.{arith, rules}
use Rattle.std.proofs.lemmas.Grind.{common_steps}
use Rattle.slot_json.proofs.TakenLaws.{no_names_bytes, no_rows_bytes, rows_step}
use Rattle.slot_json.proofs.bytes.+rows_taken.Goals as goal
use Rattle.slot_json.proofs.bytes.+rows_taken.Goals.{in_default-via-then-names-lt1, in_default-via-else-names-lt1+then-this-lt1}

pub returns-in-len1-up-len1-up : goal.returns-in-len1-up-len1-up
returns-in-len1-up-len1-up t c =
    rows_step c.args.left c.taken-left.result c.taken.result c.slot_taken-left.result c.rows_taken.result c.args.names.now c.rest_of.result.now c.args.rows.now c.rest_of-in-len1-up-len1-up.result.now
    c.name-item.result c.as_str.result.now c.row-item.result (first_of (search rules, grind arith)) (first_of (search rules, grind arith)) c.name-item.is c.row-item.is c.as_str.ensures c.rest_of.ensures c.rest_of-in-len1-up-len1-up.ensures
    c.taken-left.ensures c.taken.ensures c.slot_taken-left.ensures c.rows_taken.ensures

pub returns-in_default : goal.returns-in_default
returns-in_default t c = elim c.in_default.branch [
  | in_default-via-then-names-lt1 w ↦ grind (arith, common_steps, no_names_bytes)
  | in_default-via-else-names-lt1+then-this-lt1 w ↦ grind (arith, common_steps, no_rows_bytes)
]
