-- The slots so far are copied.
use Rattle.std.proofs.Common.{◌≡◌, take}
use Rattle.game_slots.proofs.slots.Slots.copy.Given as goal

abbrev pub invariant-loop-slot : goal.invariant-loop-slot
invariant-loop-slot l = l.items.items ≡ take l.slot-index l.self
