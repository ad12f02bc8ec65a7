-- Who looks when a match is removed with its last player: spectators, and sessions of the seat whose leaving removed it. And what a Clear
-- makes of a room.
use Rattle.std.specs.Prelude.{◌≡◌, ◌∷◌, ℕ, List, false, Some, None}
use Rattle.game_sheet.specs.Viewer.{Viewer}
use Rattle.game_sheet.specs.declared.act.Bye.TheVariants as bye
use Rattle.game_trait.specs.Rules.{Rules}
use Rattle.room_object.specs.Entry.{Entry, entry}
use Rattle.room_history.specs.Held.{attachment_with}
use Rattle.room_history.specs.Outbox.{attachment_of}
use Rattle.room_history.specs.Piece.{End}
use Rattle.room_history.specs.Room.{reply, room_of, serials, standing}
use Rattle.room_history.specs.declared.call.RoomCall.{RoomCall}
use Rattle.room_history.specs.declared.call.RoomCall.TheVariants.{Clear}
use Rattle.room_history.specs.declared.reply.RoomReply.TheVariants as answer

abbrev pub IsOfSeat : ℕ → Viewer → Type 0
IsOfSeat seat None = Unit {0}
IsOfSeat seat (Some claim) = claim.0 ≡ seat

module _ {X G : Type 0} (rules : X → Rules G) (room : ℕ) (h : List (Entry (RoomCall X))) (pass serial : ℕ) where
  -- the history with a Clear
  abbrev pub cleared : List (Entry (RoomCall X))
  cleared = entry pass (Clear serial) false ∷ h

  -- a Clear of the match that stands: no match stands, and each session that is attached ends with `left`, unless it had ended
  pub record ClearsMatch : Type 0 where
    pub replied : reply rules room h (entry pass (Clear serial) false) ≡ answer.Cleared
    pub standing : standing rules room cleared ≡ None
    pub serials : serials rules room cleared ≡ serials rules room h
    pub ended : (q : ℕ) → attachment_of ((room_of rules room cleared).sessions q) ≡ attachment_with (End bye.Left) (attachment_of ((room_of rules room h).sessions q))

  -- any other Clear is refused, and the room is as it was
  pub record ClearsNothing : Type 0 where
    pub replied : reply rules room h (entry pass (Clear serial) false) ≡ answer.NoMatch
    pub same : room_of rules room cleared ≡ room_of rules room h
