use Rattle.std.proofs.Common.{◌≡◌, length}
use Rattle.match_master.specs.Attached.{all_held, left_entry}
use Rattle.match_master.specs.Places.{up_to_place}
use Rattle.match_master.proofs.attachments.leave_all.Given as goal

-- the attachments before the place have been left
abbrev pub invariant-loop-place : goal.invariant-loop-place
invariant-loop-place l = record {
  many : length l.attachments.entries ≡ length l.initial.attachments.entries;
  left : all_held l.attachments.entries ≡ up_to_place l.place (left_entry l.who) (all_held l.initial.attachments.entries);
}
