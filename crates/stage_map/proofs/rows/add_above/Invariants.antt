use Rattle.std.proofs.Common.{◌≡◌, ◌++◌, drop}
use Rattle.stage_map.specs.Rows.{above}
use Rattle.stage_map.proofs.rows.add_above.Given as goal

-- the rows added and those of the rest are those of all rows
abbrev pub invariant-loop-row : goal.invariant-loop-row
invariant-loop-row l = l.list ++ above l.seat (drop l.row-index l.rows) ≡ l.initial.list ++ above l.seat l.rows
