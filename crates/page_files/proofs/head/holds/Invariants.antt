use Rattle.std.proofs.Common.{◌≡◌, drop}
use Rattle.page_files.specs.Heads.{holds}
use Rattle.page_files.proofs.head.holds.Given as goal

abbrev pub invariant-loop-at : goal.invariant-loop-at
invariant-loop-at l = holds l.word (drop l.at l.bytes) ≡ holds l.word l.bytes
