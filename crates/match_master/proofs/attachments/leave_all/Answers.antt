use Rattle.std.proofs.Common.{◌≡◌, length, sym, ap, ◌∙◌, add-one, arith}
use Rattle.match_master.specs.Attached.{all_held, left_entry}
use Rattle.match_master.specs.Places.{at_place}
use Rattle.match_master.proofs.AttachedLaws.{length-all_held}
use Rattle.match_master.proofs.PlaceLaws.{at_up_to, up_to_all}
use Rattle.match_master.proofs.attachments.leave_all.Goals as goal

pub loop-place-preserved : goal.loop-place-preserved
loop-place-preserved c = record {
  many = c.leave_at.ensures.many ∙ c.loop-place.invariant.many;
  left = c.leave_at.ensures.left ∙ ap (at_place c.loop-place.place (left_entry c.args.who)) c.loop-place.invariant.left
      ∙ rw add-one (at_up_to c.loop-place.place (left_entry c.args.who) (all_held c.args.attachments.now.entries));
}

pub returns : goal.returns
returns c =
    c.loop-place.invariant.left
    ∙ up_to_all c.loop-place.place (left_entry c.args.who) (all_held c.args.attachments.now.entries)
    (let many : length (all_held c.args.attachments.now.entries) ≡ c.len-count.result = length-all_held c.args.attachments.now.entries ∙ sym c.len-count.ensures.len in omega arith)
