-- The items so far are written.
use Rattle.std.proofs.Common.{◌≡◌, map, take}
use Rattle.serde_json.specs.View.{view}
use Rattle.slot_json.specs.SlotForms.{value_json}
use Rattle.slot_json.proofs.values.items_to_json.Given as goal

abbrev pub invariant-loop-place : goal.invariant-loop-place
invariant-loop-place l = map view l.values.items ≡ map value_json (take l.place l.items)
