use Rattle.std.proofs.Common.{◌≡◌, false}
use Rattle.serde_json.specs.View.{view, members_view}
use Rattle.serde_json.specs.Written.{members_have_float}
use Rattle.player_sight.specs.Change.{changed_members}
use Rattle.player_sight.proofs.Changes.{join}
use Rattle.player_sight.proofs.change.changed_of.Given as goal

-- what is put so far and what is to come are the whole, and nothing to come has a float
abbrev pub invariant-loop-name : goal.invariant-loop-name
invariant-loop-name l =
    (join (members_view l.map.entries) (changed_members (view l.old) (members_view l.name-iterator)) ≡ changed_members (view l.old) (members_view l.members.entries))
    × (members_have_float (members_view l.name-iterator) ≡ false)
