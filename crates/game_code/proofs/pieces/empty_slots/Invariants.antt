-- So many are empty.
use Rattle.std.proofs.Common.{◌≡◌, [], replicate}
use Rattle.game_code.proofs.pieces.empty_slots.Given as goal

abbrev pub invariant-loop : goal.invariant-loop
invariant-loop l = l.slots.items ≡ replicate l.counter []
