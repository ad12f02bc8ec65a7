-- The names get fewer.
use Rattle.std.proofs.Common.{length}
use Rattle.slot_json.proofs.bytes.+rows_taken.Given as goal

abbrev pub decreases-rows_taken : goal.decreases-rows_taken
decreases-rows_taken l = length l.names.now
