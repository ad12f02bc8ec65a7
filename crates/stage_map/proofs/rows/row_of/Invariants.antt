use Rattle.std.proofs.Common.{◌≡◌, drop}
use Rattle.stage_map.specs.Active.{row_of}
use Rattle.stage_map.proofs.rows.row_of.Given as goal

-- what the rest of the rows says of the seat is what all of them say
abbrev pub invariant-loop-row : goal.invariant-loop-row
invariant-loop-row l = row_of l.seat (drop l.row-index l.rows) ≡ row_of l.seat l.rows
