use Rattle.reducer.specs.Sound.{IsSound}
use Rattle.random_matches.proofs.matches.play_on.Given as goal

abbrev pub invariant-loop-try : goal.invariant-loop-try
invariant-loop-try g l = IsSound (g.X.Game.rules l.game) l.state
