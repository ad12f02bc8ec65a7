use Rattle.std.proofs.Common.{◌≡◌, ◌++◌, false, map, drop}
use Rattle.serde_json.specs.View.{items_of}
use Rattle.serde_json.specs.Written.{items_text}
use Rattle.card_games.proofs.parts.write_items.Given as goal

-- what is written and the text of the rest are the whole text
abbrev pub invariant-loop-item : goal.invariant-loop-item
invariant-loop-item g l = l.out.items ++ items_text l.later (items_of (map g.T.Part.value (drop l.item-index l.items))) ≡ l.initial.out.items ++ items_text false (items_of (map g.T.Part.value l.items))
