-- The names get fewer.
use Rattle.std.proofs.Common.{length}
use Rattle.slot_json.proofs.rows.+rows_fit.Given as goal

abbrev pub decreases-rows_fit : goal.decreases-rows_fit
decreases-rows_fit l = length l.names.now
