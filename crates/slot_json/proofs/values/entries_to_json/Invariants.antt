-- The entries so far are written.
use Rattle.std.proofs.Common.{◌≡◌, map, take}
use Rattle.serde_json.specs.View.{view}
use Rattle.slot_json.specs.TableForms.{entry_value}
use Rattle.slot_json.proofs.values.entries_to_json.Given as goal

abbrev pub invariant-loop-entry : goal.invariant-loop-entry
invariant-loop-entry l = map view l.values.items ≡ map (entry_value l.names l.rows) (take l.entry-index l.entries)
