use Rattle.std.proofs.Common.{◌≡◌}
use Rattle.card_games.specs.HighHand.{lays}
use Rattle.card_games.proofs.high_hand.lays.Given as goal

abbrev pub invariant-loop-place : goal.invariant-loop-place
invariant-loop-place l = l.offers ≡ lays l.place
