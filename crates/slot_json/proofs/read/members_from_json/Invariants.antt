-- The slots so far, and what the members that are left read as, are what all of them do.
use Rattle.std.proofs.Common.{◌≡◌}
use Rattle.serde_json.specs.View.{members_view}
use Rattle.slot_json.specs.SlotForms.{members_read}
use Rattle.slot_json.proofs.WalkLaws.{after}
use Rattle.slot_json.proofs.read.members_from_json.Given as goal

abbrev pub invariant-loop-name : goal.invariant-loop-name
invariant-loop-name l = after l.slots.items (members_read l.names_left l.rows_left (members_view l.name-iterator)) ≡ members_read l.fn.names l.fn.rows (members_view l.members.entries)
