-- One member more is read, or all are.
use Rattle.std.proofs.Common.{ap, ◌∙◌}
use Rattle.serde_json.specs.View.{members_view}
use Rattle.slot_json.proofs.WalkLaws.{all_read, next_read}
use Rattle.slot_json.proofs.read.members_from_json.Goals as goal

pub loop-name-preserved : goal.loop-name-preserved
loop-name-preserved c =
    next_read c.loop-name.names_left.now _ c.loop-name.rows_left.now _ _ _ _ _ (members_view c.next.new.self) c.loop-name.slots.items _ _ _ _ (ap members_view c.in-Some.ensures.steps) c.as_str.ensures.value c.in_ok-items.ensures.value c.in-Some-2.is
    c.rest_of-names_left.ensures c.rest_of-rows_left.ensures c.in_ok-push-in-Some-2.ensures.items c.loop-name.invariant

pub returns : goal.returns
returns c = c.ended.ensures ∙ all_read c.loop-name.names_left.now c.loop-name.rows_left.now _ c.loop-name.slots.items _ (ap members_view c.in-None.ensures.steps.0) c.loop-name.invariant
