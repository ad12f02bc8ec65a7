use Rattle.std.proofs.Common.{ap, ◌∙◌}
use Rattle.serde_json.specs.Data.{object}
use Rattle.serde_json.specs.View.{view, members_view}
use Rattle.serde_json.proofs.Views.{view-Object}
use Rattle.player_sight.proofs.Changes.{put_next, floats_next, all_put}
use Rattle.player_sight.proofs.change.changed_of.Goals as goal

pub loop-name-preserved : goal.loop-name-preserved
loop-name-preserved c = (
  put_next (view c.args.old.now) (c.in-Some.name.now, c.in-Some.value.now) c.as_str.result.now c.loop-name.name-iterator c.next.new.self c.args.members.now.entries
      (members_view c.loop-name.map.entries) (members_view c.put_if_changed.new.map.entries) c.as_str.ensures.value c.in-Some.ensures.steps c.iter-name-items.ensures.ordered c.in_ok-put_if_changed.ensures c.loop-name.invariant.0,
  floats_next (c.in-Some.name.now, c.in-Some.value.now) c.loop-name.name-iterator c.next.new.self c.in-Some.ensures.steps c.loop-name.invariant.1,
)

pub returns : goal.returns
returns c =
    view-Object c.loop-name.map
    ∙ ap object (all_put (view c.args.old.now) c.loop-name.name-iterator c.args.members.now.entries (members_view c.loop-name.map.entries) c.in-None.ensures.steps.0 c.loop-name.invariant.0)
