use Rattle.std.proofs.Common.{◌≡◌, take}
use Rattle.game_frame.specs.FrameFits.{rows_of}
use Rattle.game_frame.proofs.slots.rows.Given as goal

abbrev pub invariant-loop-frame : goal.invariant-loop-frame
invariant-loop-frame l = l.rows ≡ rows_of (take l.frame-index l.slots)
