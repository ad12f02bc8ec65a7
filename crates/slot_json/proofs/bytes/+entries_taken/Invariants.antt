-- The seats get fewer.
use Rattle.slot_json.proofs.bytes.+entries_taken.Given as goal

abbrev pub decreases-entries_taken : goal.decreases-entries_taken
decreases-entries_taken l = l.seats
