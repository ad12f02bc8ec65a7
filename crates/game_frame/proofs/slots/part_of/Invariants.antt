use Rattle.game_frame.specs.FrameFits.{AreSound}
use Rattle.game_frame.proofs.slots.part_of.Given as goal

abbrev pub invariant-loop-member : goal.invariant-loop-member
invariant-loop-member l = AreSound l.known.most_seats l.slots
