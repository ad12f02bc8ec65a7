use Rattle.std.proofs.Common.{◌≡◌, drop}
use Rattle.stage_map.specs.Moves.{place_of}
use Rattle.stage_map.proofs.moves.place_in.Given as goal

-- what the rest of the rows says of the seat is what all of them say
abbrev pub invariant-loop-row : goal.invariant-loop-row
invariant-loop-row l = place_of (drop l.row-index l.rows) l.seat ≡ place_of l.rows l.seat
