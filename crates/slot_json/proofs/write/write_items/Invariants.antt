-- What is written and the text of the rest are the whole text.
use Rattle.std.proofs.Common.{◌≡◌, ◌++◌, false, map, drop}
use Rattle.serde_json.specs.View.{items_of}
use Rattle.serde_json.specs.Written.{items_text}
use Rattle.slot_json.specs.SlotForms.{value_json}
use Rattle.slot_json.proofs.write.write_items.Given as goal

abbrev pub invariant-loop-place : goal.invariant-loop-place
invariant-loop-place l = l.out.items ++ items_text l.later (items_of (map value_json (drop l.place l.items))) ≡ l.initial.out.items ++ items_text false (items_of (map value_json l.items))
