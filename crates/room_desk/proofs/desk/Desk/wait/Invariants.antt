use Rattle.std.proofs.Common.{◌≡◌}
use Rattle.room_desk.proofs.desk.Desk.wait.Given as goal

-- until the turn comes, the seat stays as it was
abbrev pub invariant-loop : goal.invariant-loop
invariant-loop g l =
    (goal.iterator-loop g).can_next l.iterator' × (goal.iterator-loop g).is_finite l.iterator' × (l.seat.table_id ≡ l.fn.seat.table_id) × (l.seat.me ≡ l.fn.seat.me)
