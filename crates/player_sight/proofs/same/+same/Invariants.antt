use Rattle.std.proofs.Common.{◌≡◌, drop}
use Rattle.serde_json.specs.View.{items_view}
use Rattle.player_sight.proofs.same.+same.Given as goal

-- as far as the items here on are the same, all are
abbrev pub invariant-are_same-loop-item : goal.invariant-are_same-loop-item
invariant-are_same-loop-item l = (l.place ≡ l.item-index) × (items_view (drop l.item-index l.a) ≡ items_view (drop l.item-index l.b) → items_view l.a ≡ items_view l.b)
