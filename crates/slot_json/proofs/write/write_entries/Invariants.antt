-- What is written and the text of the rest are the whole text.
use Rattle.std.proofs.Common.{◌≡◌, ◌++◌, false, map, drop}
use Rattle.serde_json.specs.View.{items_of}
use Rattle.serde_json.specs.Written.{items_text}
use Rattle.slot_json.specs.TableForms.{entry_value}
use Rattle.slot_json.proofs.write.write_entries.Given as goal

abbrev pub invariant-loop-entry : goal.invariant-loop-entry
invariant-loop-entry l = l.out.items ++ items_text l.later (items_of (map (entry_value l.names l.rows) (drop l.entry-index l.entries))) ≡ l.initial.out.items ++ items_text false (items_of (map (entry_value l.names l.rows) l.entries))
