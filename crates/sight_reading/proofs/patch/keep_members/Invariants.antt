use Rattle.std.proofs.Common.{◌≡◌}
use Rattle.serde_json.specs.View.{view, members_view}
use Rattle.player_sight.specs.Change.{texts_in, without}
use Rattle.player_sight.proofs.Changes.{join}
use Rattle.sight_reading.proofs.patch.keep_members.Given as goal

-- what is kept so far and what is to come are the whole
abbrev pub invariant-loop-name : goal.invariant-loop-name
invariant-loop-name l =
    join (members_view l.map.entries) (without (texts_in (view l.gone)) (members_view l.name-iterator)) ≡ without (texts_in (view l.gone)) (members_view l.members.entries)
