use Rattle.std.proofs.Common.{◌≡◌, ◌++◌, take}
use Rattle.card_games.specs.Offers.{offers}
use Rattle.card_games.proofs.offers.offer.Given as goal

abbrev pub invariant-loop-argument : goal.invariant-loop-argument
invariant-loop-argument l = l.list ≡ l.initial.list ++ offers l.id (take l.argument-index l.arguments)
