-- The entries so far are copied.
use Rattle.std.proofs.Common.{◌≡◌, take}
use Rattle.game_slots.proofs.players.Players.copy.Given as goal

abbrev pub invariant-loop-entry : goal.invariant-loop-entry
invariant-loop-entry l = l.items.items ≡ take l.entry-index l.self
