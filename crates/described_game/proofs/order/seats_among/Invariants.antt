-- The seats so far and those of the rest are those of all items.
use Rattle.std.proofs.Common.{◌≡◌, ◌++◌, drop}
use Rattle.described_game.specs.Hooks.{seats_among}
use Rattle.described_game.proofs.order.seats_among.Given as goal

abbrev pub invariant-loop-place : goal.invariant-loop-place
invariant-loop-place l = l.order ++ seats_among l.seats (drop l.place l.items) ≡ seats_among l.seats l.items
