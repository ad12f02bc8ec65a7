use Rattle.std.proofs.Common.{◌≡◌, ◌++◌, drop, option_map}
use Rattle.serde_json.specs.View.{items_view}
use Rattle.wire_json.specs.ServerReading.{names_from}
use Rattle.wire_json.proofs.answer_read.names_of.Given as goal

-- what was read so far stands before what the rest reads as
abbrev pub invariant-loop-item : goal.invariant-loop-item
invariant-loop-item l = names_from (items_view l.items) ≡ option_map (λ rest. l.names ++ rest) (names_from (items_view (drop l.item-index l.items)))
