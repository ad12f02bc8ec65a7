use Rattle.std.proofs.Common.{◌≡◌, map, take}
use Rattle.serde_json.specs.View.{view}
use Rattle.player_sight.specs.EntryData.{entry_data}
use Rattle.player_sight.proofs.entries.list_value.Given as goal

abbrev pub invariant-loop-entry : goal.invariant-loop-entry
invariant-loop-entry l = map view l.list.items ≡ map (entry_data l.sheet) (take l.entry-index l.log)
