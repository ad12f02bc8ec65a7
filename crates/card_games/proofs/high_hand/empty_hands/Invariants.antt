use Rattle.std.proofs.Common.{◌≡◌, [], Some}
use Rattle.std.proofs.Math.ListN.{replicate}
use Rattle.card_games.proofs.high_hand.empty_hands.Given as goal

abbrev pub invariant-loop-seat : goal.invariant-loop-seat
invariant-loop-seat l = l.hands ≡ replicate l._seat (Some (record { cards = [] }))
