use Rattle.std.proofs.Common.{◌+◌, ◌*◌}
use Rattle.code_loader.proofs.drafter.Drafter.+deed.Given as goal

-- how deep it may still go, and at one depth from what has a block inside down to a statement
abbrev pub decreases-deed_written_out : goal.decreases-deed_written_out
decreases-deed_written_out l = 8 * l.left + 5

abbrev pub decreases-block_at : goal.decreases-block_at
decreases-block_at l = 8 * l.left + 4

abbrev pub decreases-statement : goal.decreases-statement
decreases-statement l = 8 * l.left + 3

abbrev pub decreases-call_deed : goal.decreases-call_deed
decreases-call_deed l = 8 * l.left + 2

abbrev pub decreases-bound_then : goal.decreases-bound_then
decreases-bound_then l = 8 * l.left + 2

abbrev pub decreases-block : goal.decreases-block
decreases-block l = 8 * l.left + 1

abbrev pub decreases-called_deed : goal.decreases-called_deed
decreases-called_deed l = 8 * l.left + 1

abbrev pub decreases-conditional : goal.decreases-conditional
decreases-conditional l = 8 * l.left + 1

abbrev pub decreases-repeated : goal.decreases-repeated
decreases-repeated l = 8 * l.left + 1
