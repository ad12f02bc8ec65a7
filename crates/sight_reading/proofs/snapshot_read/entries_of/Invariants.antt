use Rattle.std.proofs.Common.{◌≡◌, ◌++◌, drop, option_map}
use Rattle.serde_json.specs.View.{items_view}
use Rattle.sight_reading.specs.SnapshotReading.{entries_from}
use Rattle.sight_reading.proofs.snapshot_read.entries_of.Given as goal

-- what was read so far stands before what the rest reads as
abbrev pub invariant-loop-item : goal.invariant-loop-item
invariant-loop-item l = entries_from l.sheet (items_view l.items) ≡ option_map (λ es. l.entries ++ es) (entries_from l.sheet (items_view (drop l.item-index l.items)))
