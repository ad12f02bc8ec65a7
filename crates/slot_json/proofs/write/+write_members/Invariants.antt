-- The names get fewer.
use Rattle.std.proofs.Common.{length}
use Rattle.slot_json.proofs.write.+write_members.Given as goal

abbrev pub decreases-write_members : goal.decreases-write_members
decreases-write_members l = length l.names.now
