-- Where one of the three lists is at its end, the bracket is closed.
use Rattle.std.proofs.Common.{arith}
use Rattle.std.proofs.lemmas.Grind.{common_steps}
use Rattle.slot_json.proofs.PartLaws.{no_names, no_rows, no_slots}
use Rattle.slot_json.proofs.write.+write_members.Goals as goal
use Rattle.slot_json.proofs.write.+write_members.Goals.{in_default-via-then-names-lt1, in_default-via-else-names-lt1+then-this-lt1, in_default-via-else-names-lt1+else-this-lt1+then-this-lt1-2}

pub returns-in_ok-push-in_default : goal.returns-in_ok-push-in_default
returns-in_ok-push-in_default t c = elim c.in_default.branch [
  | in_default-via-then-names-lt1 w ↦ grind (arith, common_steps, no_names)
  | in_default-via-else-names-lt1+then-this-lt1 w ↦ grind (arith, common_steps, no_rows)
  | in_default-via-else-names-lt1+else-this-lt1+then-this-lt1-2 w ↦ grind (arith, common_steps, no_slots)
]
