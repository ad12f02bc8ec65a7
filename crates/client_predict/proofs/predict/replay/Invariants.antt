use Rattle.std.proofs.Common.{◌≡◌, take}
use Rattle.client_predict.specs.Stack.{guesses, snapshot_of}
use Rattle.client_predict.proofs.predict.replay.Given as goal

abbrev pub invariant-loop-w : goal.invariant-loop-w
invariant-loop-w g l = l.stack.items ≡ guesses (g.X.Game.rules l.game) l.seat (snapshot_of l.s) (take l.w-index l.waiting)
