use Rattle.std.proofs.Common.{◌≡◌, ◌++◌, drop, option_map}
use Rattle.serde_json.specs.View.{items_view}
use Rattle.open_game.proofs.parts.read_items.Given as goal
use Rattle.json_tree.specs.Fields.{read_each}

-- the parts so far, and what the items that are left read as, are what all of them do
abbrev pub invariant-loop-item : goal.invariant-loop-item
invariant-loop-item g l = option_map (λ rest. l.parts ++ rest) (read_each (g.T.Part.reading l.most) (items_view (drop l.item-index l.items))) ≡ read_each (g.T.Part.reading l.most) (items_view l.items)
