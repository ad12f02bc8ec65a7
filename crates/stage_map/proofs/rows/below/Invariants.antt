use Rattle.std.proofs.Common.{◌≡◌, ◌++◌, drop}
use Rattle.stage_map.specs.Rows.{below}
use Rattle.stage_map.proofs.rows.below.Given as goal

-- the rows found and those of the rest are those of all rows
abbrev pub invariant-loop-row : goal.invariant-loop-row
invariant-loop-row l = l.list ++ below l.seat (drop l.row-index l.rows) ≡ below l.seat l.rows
