use Rattle.std.proofs.Common.{◌≡◌, take}
use Rattle.game_frame.specs.FrameFits.{names_of}
use Rattle.game_frame.proofs.slots.names.Given as goal

abbrev pub invariant-loop-frame : goal.invariant-loop-frame
invariant-loop-frame l = l.names ≡ names_of (take l.frame-index l.slots)
