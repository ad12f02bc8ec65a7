use Rattle.std.proofs.Common.{◌≡◌, length}
use Rattle.match_master.specs.Attached.{sent}
use Rattle.match_master.specs.Places.{up_to_place}
use Rattle.match_master.proofs.attachments.commit_all.Given as goal

-- what was staged waits at the attachments before the place
abbrev pub invariant-loop-place : goal.invariant-loop-place
invariant-loop-place l = record {
  many : length l.attachments.entries ≡ length l.initial.attachments.entries;
  sent : l.attachments.entries ≡ up_to_place l.place sent l.initial.attachments.entries;
}
