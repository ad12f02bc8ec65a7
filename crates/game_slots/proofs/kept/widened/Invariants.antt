-- The numbers so far are values.
use Rattle.std.proofs.Common.{◌≡◌, map, take}
use Rattle.slot_values.specs.Values.{whole}
use Rattle.game_slots.proofs.kept.widened.Given as goal

abbrev pub invariant-loop-number : goal.invariant-loop-number
invariant-loop-number l = l.values.items ≡ map whole (take l.number-index l.numbers.items)
