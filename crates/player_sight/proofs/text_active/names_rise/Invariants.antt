use Rattle.std.proofs.Common.{◌≡◌, drop, ◌≤◌}
use Rattle.player_sight.specs.RowList.{rises_from}
use Rattle.player_sight.proofs.text_active.names_rise.Given as goal

abbrev pub invariant-loop-row : goal.invariant-loop-row
invariant-loop-row l = (rises_from l.least (drop l.row-index l.rows) ≡ rises_from 0 l.rows) × (l.least ≤ 10)
