use Rattle.std.proofs.Common.{◌≡◌, take}
use Rattle.game_frame.specs.FrameFits.{move_names}
use Rattle.game_frame.proofs.clients.guessed_rows.Given as goal

abbrev pub invariant-loop-place : goal.invariant-loop-place
invariant-loop-place l = move_names l.rows ≡ move_names (take l.place l.moves)
