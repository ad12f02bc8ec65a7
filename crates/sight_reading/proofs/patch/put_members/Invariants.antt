use Rattle.std.proofs.Common.{◌≡◌}
use Rattle.serde_json.specs.View.{members_view}
use Rattle.player_sight.specs.Change.{with_members}
use Rattle.sight_reading.proofs.patch.put_members.Given as goal

-- with those to come, the members are the whole
abbrev pub invariant-loop-name : goal.invariant-loop-name
invariant-loop-name l = with_members (members_view l.map.entries) (members_view l.name-iterator) ≡ with_members (members_view l.initial.map.entries) (members_view l.members.entries)
