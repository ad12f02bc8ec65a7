use Rattle.std.proofs.Common.{◌≡◌, length}
use Rattle.game_file.proofs.moves.argument_texts.Given as goal

abbrev pub invariant-loop-place : goal.invariant-loop-place
invariant-loop-place l = length l.args ≡ l.place
