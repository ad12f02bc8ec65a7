-- What a server's rooms have come to, in numbers: how many actions were accepted and how many refused, and how many bytes were handed out.
use Rattle.std.specs.Prelude.{ℕ, ◌+◌, [], ◌∷◌}
use Rattle.game_trait.specs.Rules.{Rules}
use Rattle.room_history.specs.Room.{reply}
use Rattle.room_history.specs.declared.reply.RoomReply.{RoomReply}
pub use Rattle.game_hall.specs.Counts.{accepts, hands_out, refuses}
use Rattle.hall_history.specs.Rooms.{History, Rooms}

module _ {X G : Type 0} (rules : X → Rules G) (count : RoomReply → ℕ) where
  -- over all replies of a room
  abbrev pub count_in : ℕ → History X → ℕ
  count_in room [] = 0
  count_in room (e ∷ h) = count_in room h + count (reply rules room h e)

  -- and of rooms, the first of which has this number
  abbrev pub count_from : ℕ → Rooms X → ℕ
  count_from room [] = 0
  count_from room (h ∷ rooms) = count_in room h + count_from (room + 1) rooms
