use Rattle.serde_json.specs.View.{view, members_view}
use Rattle.player_sight.specs.Change.{texts_in}
use Rattle.sight_reading.proofs.Patches.{keep_next, all_kept}
use Rattle.sight_reading.proofs.patch.keep_members.Goals as goal

pub loop-name-preserved : goal.loop-name-preserved
loop-name-preserved c =
    keep_next (texts_in (view c.args.gone.now)) (c.in-Some.name.now, c.in-Some.value.now) c.as_str.result.now c.loop-name.name-iterator c.next.new.self c.args.members.now.entries
    (members_view c.loop-name.map.entries) (members_view c.keep_member.new.map.entries) c.as_str.ensures.value c.in-Some.ensures.steps c.iter-name-items.ensures.ordered c.in_ok-keep_member.ensures c.loop-name.invariant

pub returns : goal.returns
returns c = all_kept (texts_in (view c.args.gone.now)) c.loop-name.name-iterator c.args.members.now.entries (members_view c.loop-name.map.entries) c.in-None.ensures.steps.0 c.loop-name.invariant
