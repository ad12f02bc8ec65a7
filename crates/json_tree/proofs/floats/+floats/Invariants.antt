use Rattle.std.proofs.Common.{◌≡◌, drop}
use Rattle.serde_json.specs.View.{items_view, members_view}
use Rattle.serde_json.specs.Written.{items_have_float, members_have_float}
use Rattle.json_tree.proofs.floats.+floats.Given as goal

-- the items from here on tell what all of them do
abbrev pub invariant-any_item-loop-item : goal.invariant-any_item-loop-item
invariant-any_item-loop-item l = items_have_float (items_view (drop l.item-index l.items)) ≡ items_have_float (items_view l.items)

-- the same of the members that are left
abbrev pub invariant-any_member-loop-key : goal.invariant-any_member-loop-key
invariant-any_member-loop-key l = members_have_float (members_view l._key-iterator) ≡ members_have_float (members_view l.members.entries)
