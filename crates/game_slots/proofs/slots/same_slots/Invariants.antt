-- The slots so far are the same.
use Rattle.std.proofs.Common.{◌≡◌, take}
use Rattle.game_slots.proofs.slots.same_slots.Given as goal

abbrev pub invariant-loop-place : goal.invariant-loop-place
invariant-loop-place l = take l.place l.one ≡ take l.place l.other
