use Rattle.std.proofs.Common.{◌≡◌, drop}
use Rattle.serde_json.specs.View.{items_view}
use Rattle.card_games.specs.Parts.{read_items}
use Rattle.card_games.proofs.ReadLemmas.{after}
use Rattle.card_games.proofs.parts.items_from_json.Given as goal

abbrev pub invariant-loop-item : goal.invariant-loop-item
invariant-loop-item g l = after l.parts.items (read_items g.T.Part.read (items_view (drop l.item-index l.items))) ≡ read_items g.T.Part.read (items_view l.items)
