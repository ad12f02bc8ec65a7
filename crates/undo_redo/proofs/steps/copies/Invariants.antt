use Rattle.std.proofs.Common.{◌≡◌, ◌≤◌, take}
use Rattle.std.specs.Vec.{vec_capacity}
use Rattle.undo_redo.proofs.steps.copies.Given as goal

abbrev pub invariant-steps : goal.invariant-steps
invariant-steps g l = record {
  so_far : l.copied.items ≡ take l.step-index l.steps;
  room : l.room ≤ vec_capacity l.copied;
}
