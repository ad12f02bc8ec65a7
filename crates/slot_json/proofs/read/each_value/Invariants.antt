-- The items so far, and what the values that are left read as, are what all of them do.
use Rattle.std.proofs.Common.{◌≡◌, ◌++◌, drop, option_map}
use Rattle.json_tree.specs.Fields.{read_each}
use Rattle.serde_json.specs.View.{items_view}
use Rattle.slot_json.specs.SlotForms.{value_read}
use Rattle.slot_json.proofs.read.each_value.Given as goal

abbrev pub invariant-loop-value : goal.invariant-loop-value
invariant-loop-value l = option_map (λ rest. l.items ++ rest) (read_each (value_read l.row) (items_view (drop l.value-index l.values))) ≡ read_each (value_read l.row) (items_view l.values)
