-- What a Take of a client makes of its world: the hall after it, and what is handed out at the end of the down link.
use Rattle.std.proofs.Common.{◌≡◌, ℕ, ◌==◌, Bool, true, false, if◌then◌else◌, List, [], ◌++◌, Option, Some, None, refl, sym, ap, ◌∙◌, append-nil}
use Rattle.game_sheet.specs.Lines.{lines}
use Rattle.game_trait.specs.Rules.{Rules}
use Rattle.room_history.specs.declared.reply.RoomReply.{RoomReply}
use Rattle.room_history.specs.declared.reply.RoomReply.TheVariants as reply
use Rattle.room_history.specs.declared.call.RoomCall.TheVariants as call
use Rattle.hall_history.specs.Freeing.{frees}
use Rattle.hall_history.specs.Parts.{frees_at}
use Rattle.hall_history.specs.Hall.{Hall}
use Rattle.hall_history.specs.Told.{bytes_in}
use Rattle.world_history.specs.World.{World, set_at}
use Rattle.world_history.specs.WorldScript.{takes}
use Rattle.hall_history.proofs.Rooming.{same_number}

pub record IsTaken {X G : Type 0} (w : World X G) (c : ℕ) (hall : Hall X) (told : Option RoomReply) (v : World X G) : Type 0 where
  pub new : v.hall ≡ hall
  pub clients : v.clients ≡ w.clients
  pub up : v.up ≡ w.up
  pub down : (d : ℕ) → v.down d ≡ set_at c (w.down c ++ lines (bytes_in told)) w.down d

nothing_more : (c d : ℕ) (all : ℕ → List (List ℕ)) → all d ≡ set_at c (all c ++ []) all d
nothing_more c d all = by (c == d) refl
  where
    by : (b : Bool) → (c == d) ≡ b → all d ≡ (if b then all c ++ [] else all d)
    by true e = ap all (sym (same_number c d e)) ∙ sym (append-nil (all c))
    by false e = refl

module _ {X G : Type 0} (rules : X → Rules G) (w : World X G) (c : ℕ) (hall : Hall X) where
  told_taken : (told : RoomReply) → IsTaken w c hall (Some told) (takes rules w c (hall, Some told)).0
  told_taken (reply.Created serial) = record { new = refl; clients = refl; up = refl; down = λ d. refl }
  told_taken reply.Joined = record { new = refl; clients = refl; up = refl; down = λ d. refl }
  told_taken reply.Renamed = record { new = refl; clients = refl; up = refl; down = λ d. refl }
  told_taken reply.Left = record { new = refl; clients = refl; up = refl; down = λ d. refl }
  told_taken reply.Cleared = record { new = refl; clients = refl; up = refl; down = λ d. refl }
  told_taken (reply.Looked row) = record { new = refl; clients = refl; up = refl; down = λ d. refl }
  told_taken reply.Attached = record { new = refl; clients = refl; up = refl; down = λ d. refl }
  told_taken (reply.Verdict v) = record { new = refl; clients = refl; up = refl; down = λ d. refl }
  told_taken (reply.Taken bytes end) = record { new = refl; clients = refl; up = refl; down = λ d. refl }
  told_taken reply.Detached = record { new = refl; clients = refl; up = refl; down = λ d. refl }
  told_taken reply.Busy = record { new = refl; clients = refl; up = refl; down = λ d. refl }
  told_taken reply.BadSeats = record { new = refl; clients = refl; up = refl; down = λ d. refl }
  told_taken reply.NoStart = record { new = refl; clients = refl; up = refl; down = λ d. refl }
  told_taken reply.NoMatch = record { new = refl; clients = refl; up = refl; down = λ d. refl }
  told_taken reply.NoSeat = record { new = refl; clients = refl; up = refl; down = λ d. refl }
  told_taken reply.SeatTaken = record { new = refl; clients = refl; up = refl; down = λ d. refl }
  told_taken reply.BadName = record { new = refl; clients = refl; up = refl; down = λ d. refl }
  told_taken reply.AlreadyAttached = record { new = refl; clients = refl; up = refl; down = λ d. refl }
  told_taken reply.Unauthorized = record { new = refl; clients = refl; up = refl; down = λ d. refl }
  told_taken reply.NotAttached = record { new = refl; clients = refl; up = refl; down = λ d. nothing_more c d w.down }
  told_taken reply.NoMemory = record { new = refl; clients = refl; up = refl; down = λ d. refl }

  none_taken : w.hall ≡ hall → IsTaken w c hall None (takes rules w c (hall, None)).0
  none_taken e = record { new = e; clients = refl; up = refl; down = λ d. nothing_more c d w.down }

  pub is_taken : (told : Option RoomReply) → (told ≡ None → w.hall ≡ hall) → IsTaken w c hall told (takes rules w c (hall, told)).0
  is_taken None e = none_taken (e refl)
  is_taken (Some told) e = told_taken told

module _ {X G : Type 0} (rules : X → Rules G) (w : World X G) (c : ℕ) where
  none_free : (o : Option ℕ) → (frees_at rules w.hall c call.Take o).1 ≡ None → w.hall ≡ (frees_at rules w.hall c call.Take o).0
  none_free None e = refl
  none_free (Some room) e = cc

  pub take_made : IsTaken w c (frees rules w.hall c call.Take).0 (frees rules w.hall c call.Take).1 (takes rules w c (frees rules w.hall c call.Take)).0
  take_made = is_taken rules w c (frees rules w.hall c call.Take).0 (frees rules w.hall c call.Take).1 (none_free (w.hall.at c))
