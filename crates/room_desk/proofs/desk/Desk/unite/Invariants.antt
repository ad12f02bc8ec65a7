use Rattle.std.proofs.Common.{◌≡◌, ◌<◌, ◌++◌, [], None, Some, false, length, map, All, vec_len}
use Rattle.room_desk.specs.Turns.{view}
use Rattle.room_desk.specs.Plays.{past_of}
use Rattle.room_desk.proofs.desk.Desk.unite.Given as goal

-- the last passes are at the seat, and the others in the list
abbrev pub invariant-loop-pass : goal.invariant-loop-pass
invariant-loop-pass g l =
    (l.seat.table_id ≡ l.fn.seat.table_id)
    × (l.seat.me ≡ (view (Some l.self.desk.object) l.seat.me.0.pasts None false, []))
    × (0 < length l.seat.me.0.pasts)
    × (map past_of l.passes.items ++ l.seat.me.0.pasts ≡ map past_of l.fn.passes.items ++ l.fn.seat.me.0.pasts)
    × All (λ p. p.desk ≡ l.self.desk) l.passes.items

abbrev pub decreases-loop-pass : goal.decreases-loop-pass
decreases-loop-pass g l = vec_len l.passes
