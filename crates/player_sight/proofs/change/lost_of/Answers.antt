use Rattle.std.proofs.Common.{map}
use Rattle.serde_json.specs.View.{view}
use Rattle.player_sight.proofs.Changes.{lost_next}
use Rattle.player_sight.proofs.change.lost_of.Goals as goal

pub loop-name-preserved : goal.loop-name-preserved
loop-name-preserved c =
    lost_next (view c.args.new.now) (c.in-Some.name.now, c.in-Some.field-0-1.now) c.as_str.result.now c.loop-name.name-iterator c.next.new.self
    (map view c.loop-name.names.items) (map view c.push_if_lost.new.names.items) _ c.as_str.ensures.value c.in-Some.ensures.steps c.in_ok-push_if_lost.ensures c.loop-name.invariant
