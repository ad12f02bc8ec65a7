use Rattle.std.proofs.Common.{◌≡◌, ◌++◌, drop, map}
use Rattle.stage_map.specs.Active.{shown_row}
use Rattle.stage_map.proofs.rows.shown_rows.Given as goal

-- the pairs made and those of the rest are those of all rows
abbrev pub invariant-loop-row : goal.invariant-loop-row
invariant-loop-row l = l.list ++ map shown_row (drop l.row-index l.rows) ≡ map shown_row l.rows
