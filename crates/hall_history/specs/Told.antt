-- What Takes hand out to a session: by its room's history, and step by step along a script. A session is named by its pass and by which of
-- the pass's attachings in the room began it, from 0.
use Rattle.std.specs.Prelude.{ℕ, ◌+◌, ◌==◌, Bool, ◌&&◌, if◌then◌else◌, List, [], ◌∷◌, ◌++◌, length, drop, Option, Some, None}
use Rattle.game_trait.specs.Rules.{Rules}
use Rattle.room_history.specs.Room.{room_of}
use Rattle.room_history.specs.Sent.{bytes_of_entry}
use Rattle.room_history.specs.Session.{bytes_handed_out}
use Rattle.room_history.specs.declared.call.RoomCall.TheVariants.{Take}
use Rattle.room_history.specs.declared.reply.RoomReply.{RoomReply}
use Rattle.hall_history.specs.Freeing.{frees}
use Rattle.hall_history.specs.Hall.{Hall}
use Rattle.hall_history.specs.Mark.{Mark}
use Rattle.hall_history.specs.Placed.{is_at}
use Rattle.hall_history.specs.Rooms.{History, history_of}
use Rattle.hall_history.specs.Script.{Step, Takes, does, first_mark}

module _ {X G : Type 0} (rules : X → Rules G) (room : ℕ) where
  -- the bytes that the Takes of a history hand out to a session
  abbrev pub handed_in : History X → ℕ → ℕ → List ℕ
  handed_in [] pass j = []
  handed_in (e ∷ h) pass j = handed_in h pass j ++ bytes_of_entry rules room h e pass j

abbrev pub bytes_in : Option RoomReply → List ℕ
bytes_in None = []
bytes_in (Some told) = bytes_handed_out told

module _ {X G : Type 0} (rules : X → Rules G) (pass room j : ℕ) where
  -- the session is attached, and this is the one of its pass's that is
  abbrev pub is_session : Hall X → ℕ → Bool
  is_session h taker = (taker == pass) && (is_at (h.at taker) room && (length ((room_of rules room (history_of h.rooms room)).sessions pass) == j + 1))

  -- the bytes that a step hands out to the session: those of the lines that it prints
  abbrev pub handed_by : Step → Hall X → List ℕ
  handed_by (Takes taker) h = if is_session h taker then bytes_in (frees rules h taker Take).1 else []
  handed_by step h = []

module _ {X G : Type 0} (named : List ℕ → Option X) (rules : X → Rules G) (tape : ℕ → List ℕ) (pass room j : ℕ) where
  abbrev pub handed_out : List Mark → List Step → Hall X → List ℕ
  handed_out marks [] h = []
  handed_out marks (step ∷ steps) h =
      handed_by rules pass room j step h ++ handed_out (drop 1 marks) steps (does named rules tape (first_mark marks) step h).0
