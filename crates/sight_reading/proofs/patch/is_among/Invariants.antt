use Rattle.std.proofs.Common.{◌≡◌, drop}
use Rattle.serde_json.specs.View.{items_view}
use Rattle.json_tree.specs.Names.{is_known}
use Rattle.player_sight.specs.Change.{texts_from}
use Rattle.sight_reading.proofs.patch.is_among.Given as goal

abbrev pub invariant-loop-item : goal.invariant-loop-item
invariant-loop-item l = is_known (texts_from (items_view (drop l.item-index l.items))) l.name ≡ is_known (texts_from (items_view l.items)) l.name
