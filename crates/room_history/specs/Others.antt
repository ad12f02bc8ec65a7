-- What a call leaves as it was: the matches, and what is told to others.
use Rattle.std.specs.Prelude.{◌≡◌, ◌≢◌, ◌∷◌, ℕ, List, false}
use Rattle.game_trait.specs.Rules.{Rules}
use Rattle.room_object.specs.Entry.{Entry, entry}
use Rattle.wire_json.specs.declared.reason.Reason.{Reason}
use Rattle.room_history.specs.Does.{Room}
use Rattle.room_history.specs.Held.{attachment_with}
use Rattle.wire_json.specs.declared.server.ServerMsg.TheVariants.{No}
use Rattle.room_history.specs.Outbox.{attachment_of}
use Rattle.room_history.specs.Piece.{Line}
use Rattle.room_history.specs.Room.{room_of}
use Rattle.room_history.specs.declared.call.RoomCall.{RoomCall}
use Rattle.room_history.specs.declared.call.RoomCall.TheVariants.{Submit}
use Rattle.wire_json.specs.declared.submission.Submission.{Submission}

-- the matches stay
pub record KeepsMatches {X G : Type 0} (before after : Room X G) : Type 0 where
  pub serials : after.serials ≡ before.serials
  pub standing : after.standing ≡ before.standing
  pub removed : after.removed ≡ before.removed

-- and so do every other pass's sessions
pub record KeepsOthers {X G : Type 0} (pass : ℕ) (before after : Room X G) : Type 0 where
  pub matches : KeepsMatches before after
  pub sessions : (q : ℕ) → q ≢ pass → after.sessions q ≡ before.sessions q

-- want of memory changes no match and nothing that is told
pub record KeepsAll {X G : Type 0} (before after : Room X G) : Type 0 where
  pub matches : KeepsMatches before after
  pub attachments : (q : ℕ) → attachment_of (after.sessions q) ≡ attachment_of (before.sessions q)

module _ {X G : Type 0} (rules : X → Rules G) (room : ℕ) where
  -- a refused submission is told to its own session alone, by the one line
  pub record TellsRefusal (h : List (Entry (RoomCall X))) (pass : ℕ) (s : Submission) (number : ℕ) (reason : Reason) : Type 0 where
    pub others : KeepsOthers pass (room_of rules room h) (room_of rules room (entry pass (Submit s) false ∷ h))
    pub own : attachment_of ((room_of rules room (entry pass (Submit s) false ∷ h)).sessions pass)
        ≡ attachment_with (Line (No number reason s.ticket)) (attachment_of ((room_of rules room h).sessions pass))
