use Rattle.std.proofs.Common.{◌≡◌, map}
use Rattle.serde_json.specs.View.{members_view}
use Rattle.json_tree.specs.Names.{has_extra}
use Rattle.json_tree.proofs.fields.has_other.Given as goal

-- the members that are left tell what all of them do
abbrev pub invariant-loop-name : goal.invariant-loop-name
invariant-loop-name l = has_extra (map (λ k. k.now) l.known) (members_view l.name-iterator) ≡ has_extra (map (λ k. k.now) l.known) (members_view l.members.entries)
