use Rattle.std.proofs.Common.{◌≡◌, drop}
use Rattle.page_files.specs.Forms.{has_sum}
use Rattle.page_files.proofs.form.has_sum.Given as goal

abbrev pub invariant-loop-at : goal.invariant-loop-at
invariant-loop-at l = has_sum (drop l.at l.name) ≡ has_sum l.name
