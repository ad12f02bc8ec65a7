use Rattle.std.proofs.Common.{◌≡◌, [], None, Some, false, ◌-◌}
use Rattle.room_desk.specs.History.{dealt}
use Rattle.room_desk.specs.Turns.{fresh, view, seen_in}
use Rattle.room_desk.proofs.desk.Desk.deal.Given as goal

-- the first passes are dealt, and the seat has the others
abbrev pub invariant-loop-number : goal.invariant-loop-number
invariant-loop-number g l =
    (l.seat.table_id ≡ l.self.desk.table)
    × (l.seat.me ≡ (view (Some l.self.desk.object) (fresh (seen_in l.fn.seat.me.0.pasts) l.number (l.self.passes - l.number)) None false, []))
    × (l.passes.items ≡ dealt (seen_in l.fn.seat.me.0.pasts) l.self.desk l.number)
