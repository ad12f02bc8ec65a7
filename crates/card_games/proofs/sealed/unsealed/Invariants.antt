use Rattle.std.proofs.Common.{◌≡◌, None, Some}
use Rattle.std.proofs.Math.ListN.{replicate}
use Rattle.card_games.proofs.sealed.unsealed.Given as goal

abbrev pub invariant-loop-seat : goal.invariant-loop-seat
invariant-loop-seat g l = l.players ≡ replicate l._seat (Some (record { item = None }))
