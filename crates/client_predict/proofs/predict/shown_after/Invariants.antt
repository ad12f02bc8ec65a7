use Rattle.std.proofs.Common.{◌≡◌, take}
use Rattle.client_predict.specs.Stack.{after, snapshot_of}
use Rattle.client_predict.proofs.predict.shown_after.Given as goal

abbrev pub invariant-loop-guess : goal.invariant-loop-guess
invariant-loop-guess g l = snapshot_of l.reached ≡ after (snapshot_of l.initial.reached) (take l.guess-index l.guesses)
