use Rattle.std.proofs.Common.{◌≡◌, ◌++◌, drop, option_map}
use Rattle.serde_json.specs.View.{items_view}
use Rattle.sight_reading.specs.Reading.{naturals_from}
use Rattle.sight_reading.proofs.part_read.seats_of.Given as goal

-- what was read so far stands before what the rest reads as
abbrev pub invariant-loop-item : goal.invariant-loop-item
invariant-loop-item l = naturals_from (items_view l.items) ≡ option_map (λ ns. l.seats ++ ns) (naturals_from (items_view (drop l.item-index l.items)))
