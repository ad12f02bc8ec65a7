use Rattle.std.proofs.Common.{◌≡◌, ◌++◌, map}
use Rattle.serde_json.specs.Data.{string}
use Rattle.serde_json.specs.View.{view, members_view}
use Rattle.player_sight.specs.Change.{lost_names}
use Rattle.player_sight.proofs.change.lost_of.Given as goal

-- the names so far and those to come are the whole
abbrev pub invariant-loop-name : goal.invariant-loop-name
invariant-loop-name l =
    map view l.names.items ++ map string (lost_names (members_view l.name-iterator) (view l.new)) ≡ map string (lost_names (members_view l.members.entries) (view l.new))
