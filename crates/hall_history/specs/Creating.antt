-- A session's create, with memory: what a room would reply to it, and what it comes to.
use Rattle.std.specs.Prelude.{◌≡◌, ◌==◌, ◌∷◌, ℕ, List, false, Option, Ok}
use Rattle.game_trait.specs.Rules.{Rules}
use Rattle.game_hall.specs.Core.{Core}
use Rattle.game_hall.specs.Words.{seed_of}
use Rattle.game_hall.specs.declared.answer.Answer.{Answer}
use Rattle.room_history.specs.Others.{KeepsAll}
use Rattle.room_history.specs.Room.{room_of}
use Rattle.room_history.specs.declared.call.RoomCall.{RoomCall}
use Rattle.room_history.specs.declared.call.RoomCall.TheVariants as call
use Rattle.room_history.specs.declared.reply.RoomReply.{RoomReply}
use Rattle.room_object.specs.Entry.{Entry, entry}
use Rattle.wire_json.specs.declared.client.ClientMsg.TheVariants.{Create}
use Rattle.hall_history.specs.Hall.{Hall, request}
use Rattle.hall_history.specs.Mark.{Lucky, Served}
use Rattle.hall_history.specs.Rooms.{Rooms, history_of, reply_in}

abbrev pub create_entry : {X : Type 0} → (ℕ → List ℕ) → Hall X → ℕ → X → ℕ → Entry (RoomCall X)
create_entry tape h pass game seats = entry pass (call.Create game seats (seed_of h.seed (tape h.place))) false

module _ {X G : Type 0} (rules : X → Rules G) (tape : ℕ → List ℕ) where
  abbrev pub create_reply : Hall X → ℕ → X → ℕ → ℕ → RoomReply
  create_reply h pass game seats room = reply_in rules h.rooms room (create_entry tape h pass game seats)

module _ {X G : Type 0} (named : List ℕ → Option X) (rules : X → Rules G) (tape : ℕ → List ℕ) where
  abbrev pub create_done : Hall X → ℕ → List ℕ → ℕ → Core X × Lucky X
  create_done h pass name seats = request named rules tape Served h pass (Ok (Create name seats))

  abbrev pub create_answer : Hall X → ℕ → List ℕ → ℕ → Option Answer
  create_answer h pass name seats = (create_done h pass name seats).0.said

module _ {X G : Type 0} (rules : X → Rules G) where
  -- a room has one call more, and no other room has changed
  pub record ChangesOne (room : ℕ) (made : Entry (RoomCall X)) (before after : Rooms X) : Type 0 where
    pub has : history_of after room ≡ made ∷ history_of before room
    pub others : (r : ℕ) → (room == r) ≡ false → KeepsAll (room_of rules r (history_of before r)) (room_of rules r (history_of after r))
