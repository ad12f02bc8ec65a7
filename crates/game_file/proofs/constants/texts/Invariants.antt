use Rattle.std.proofs.Common.{◌≡◌, length}
use Rattle.game_file.proofs.constants.texts.Given as goal

abbrev pub invariant-loop-item : goal.invariant-loop-item
invariant-loop-item l = length l.texts ≡ l.item-index
