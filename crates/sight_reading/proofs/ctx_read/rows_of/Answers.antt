use Rattle.std.proofs.Common.{◌≡◌, ◌+◌, ◌++◌, ◌∷◌, [], sym, subst, rules}
use Rattle.serde_json.specs.View.{view}
use Rattle.sight_reading.proofs.ActiveRows.{AreAll, passed_by, malformed, seat_found, all_found, at_end}
use Rattle.sight_reading.proofs.ctx_read.rows_of.Goals as goal
use Rattle.sight_reading.proofs.ctx_read.rows_of.Goals.{in-Absent, in-Active+in_ok-push-in-Active}

pub returns-then-len : goal.returns-then-len
returns-then-len c =
    search (rules, all_found c.args.sheet.now (view c.args.active.now) c.args.members.now.entries c.loop-seat.rows c.loop-seat.seat)

pub returns-in-Malformed : goal.returns-in-Malformed
returns-in-Malformed c =
    search (rules, malformed c.args.sheet.now (view c.args.active.now) c.loop-seat.rows c.loop-seat.seat)

pub loop-seat-preserved : goal.loop-seat-preserved
loop-seat-preserved c = elim c.match-branch-2.branch [
  | in-Absent w ↦
      subst (λ rows. AreAll c.args.sheet.now (view c.args.active.now) rows (c.loop-seat.seat + 1)) (sym w.rows-is)
      (passed_by c.args.sheet.now (view c.args.active.now) c.loop-seat.rows c.loop-seat.seat c.in_ok-stage_at.field-0 c.loop-seat-test.true c.in_ok-stage_at.ensures w.in-Absent.is c.loop-seat.invariant)
  | in-Active+in_ok-push-in-Active w ↦
      let longer : c.loop-seat.rows ++ (c.loop-seat.seat, w.in-Active.stage) ∷ [] ≡ c.match-branch-2.rows = search rules in
      subst (λ rows. AreAll c.args.sheet.now (view c.args.active.now) rows (c.loop-seat.seat + 1)) longer
      (seat_found c.args.sheet.now (view c.args.active.now) c.loop-seat.rows c.loop-seat.seat c.in_ok-stage_at.field-0 w.in-Active.stage c.loop-seat-test.true c.in_ok-stage_at.ensures w.in-Active.is c.loop-seat.invariant)
]

pub returns-then-len-2 : goal.returns-then-len-2
returns-then-len-2 c =
    search (rules, at_end c.args.sheet.now (view c.args.active.now) c.args.members.now.entries c.loop-seat.rows c.loop-seat.seat)

pub returns-else-len-2 : goal.returns-else-len-2
returns-else-len-2 c =
    search (rules, at_end c.args.sheet.now (view c.args.active.now) c.args.members.now.entries c.loop-seat.rows c.loop-seat.seat)
