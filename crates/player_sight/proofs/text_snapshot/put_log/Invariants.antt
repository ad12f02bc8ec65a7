use Rattle.std.proofs.Common.{◌≡◌, ◌++◌, false, map, drop}
use Rattle.serde_json.specs.View.{items_of}
use Rattle.serde_json.specs.Written.{items_text}
use Rattle.move_log.specs.Redact.{redact}
use Rattle.player_sight.specs.EntryData.{entry_data}
use Rattle.player_sight.proofs.text_snapshot.put_log.Given as goal

-- what is written and the text of the rest are the whole text
abbrev pub invariant-loop-entry : goal.invariant-loop-entry
invariant-loop-entry l =
    l.out.items ++ items_text l.later (items_of (map (entry_data l.sheet) (map (redact l.sheet l.viewer) (drop l.entry-index l.log))))
    ≡ l.initial.out.items ++ items_text false (items_of (map (entry_data l.sheet) (map (redact l.sheet l.viewer) l.log)))
