use Rattle.serde_json.specs.View.{view}
use Rattle.sight_reading.proofs.ActiveRows.{AreAll}
use Rattle.sight_reading.proofs.ctx_read.rows_of.Given as goal

abbrev pub invariant-loop-seat : goal.invariant-loop-seat
invariant-loop-seat l = AreAll l.sheet (view l.active) l.rows l.seat
