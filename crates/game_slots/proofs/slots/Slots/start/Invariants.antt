-- The slots so far are started.
use Rattle.std.proofs.Common.{◌≡◌, take}
use Rattle.game_slots.specs.Slots.{slots_started}
use Rattle.game_slots.proofs.slots.Slots.start.Given as goal

abbrev pub invariant-loop-row : goal.invariant-loop-row
invariant-loop-row l = l.items.items ≡ slots_started (take l.row-index l.rows) l.seats
