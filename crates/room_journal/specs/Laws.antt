-- What every room's book keeps as an object whose records are read back.
use Rattle.std.specs.Prelude.{◌≡◌, ℕ, List, [], Bool, true, false, Option, refl}
use Rattle.std.proofs.Common.{sym, subst}
use Rattle.match_master.specs.Held.{is_starved}
use Rattle.room_history.specs.declared.reply.RoomReply.{RoomReply}
use Rattle.room_history.specs.declared.reply.RoomReply.TheVariants as answer
use Rattle.room_changes.specs.ChangesOf.{is_accepted}
use Rattle.room_journal.specs.Coming.{HasCome}

-- where nothing has happened
pub fresh : (room : ℕ) (keys : List (Option (List ℕ))) → HasCome room keys []
fresh room keys = record { told = refl; fits = tt }

abbrev Is : Bool → Type 0
Is true = Unit {0}
Is false = ⊥

never : {P : Type 0} → false ≡ true → P
never e = absurd (subst Is (sym e) tt)

pub starved_declined : (r : RoomReply) → is_starved r ≡ true → is_accepted r ≡ false
starved_declined answer.NoMemory e = refl
starved_declined (answer.Created serial) e = never e
starved_declined answer.Joined e = never e
starved_declined answer.Renamed e = never e
starved_declined answer.Left e = never e
starved_declined answer.Cleared e = never e
starved_declined (answer.Looked row) e = never e
starved_declined answer.Attached e = never e
starved_declined (answer.Verdict v) e = never e
starved_declined (answer.Taken bytes end) e = never e
starved_declined answer.Detached e = never e
starved_declined answer.Busy e = never e
starved_declined answer.BadSeats e = never e
starved_declined answer.NoStart e = never e
starved_declined answer.NoMatch e = never e
starved_declined answer.NoSeat e = never e
starved_declined answer.SeatTaken e = never e
starved_declined answer.BadName e = never e
starved_declined answer.AlreadyAttached e = never e
starved_declined answer.Unauthorized e = never e
starved_declined answer.NotAttached e = never e
