use Rattle.std.proofs.Common.{◌≡◌, length}
use Rattle.game_file.proofs.constants.numbers.Given as goal

abbrev pub invariant-loop-item : goal.invariant-loop-item
invariant-loop-item l = length l.numbers ≡ l.item-index
