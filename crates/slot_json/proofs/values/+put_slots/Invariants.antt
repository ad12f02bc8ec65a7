-- The names get fewer.
use Rattle.std.proofs.Common.{length}
use Rattle.slot_json.proofs.values.+put_slots.Given as goal

abbrev pub decreases-put_slots : goal.decreases-put_slots
decreases-put_slots l = length l.names.now
