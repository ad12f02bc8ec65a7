use Rattle.std.proofs.Common.{◌≡◌, length, sym, ap, ◌∙◌, add-one, arith}
use Rattle.match_master.specs.Attached.{all_held, sent}
use Rattle.match_master.specs.Places.{at_place}
use Rattle.match_master.proofs.AttachedLaws.{held_sent}
use Rattle.match_master.proofs.PlaceLaws.{at_up_to, length-at_place, up_to_all}
use Rattle.match_master.proofs.attachments.commit_all.Goals as goal

pub loop-place-preserved : goal.loop-place-preserved
loop-place-preserved c = record {
  many = ap length c.commit_at.ensures ∙ length-at_place c.loop-place.place sent c.loop-place.attachments.entries ∙ c.loop-place.invariant.many;
  sent = c.commit_at.ensures ∙ ap (at_place c.loop-place.place sent) c.loop-place.invariant.sent ∙ rw add-one (at_up_to c.loop-place.place sent c.args.attachments.now.entries);
}

pub returns : goal.returns
returns c =
    ap all_held
    (c.loop-place.invariant.sent
    ∙ up_to_all c.loop-place.place sent c.args.attachments.now.entries (let many : length c.args.attachments.now.entries ≡ c.len-count.result = sym c.len-count.ensures.len in omega arith))
    ∙ held_sent c.args.attachments.now.entries
