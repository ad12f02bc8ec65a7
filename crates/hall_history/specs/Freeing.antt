-- A Take, or a Detach, of a session in the room that it is attached to. An end that is handed out, and a Detach, set the session free.
use Rattle.std.specs.Prelude.{ℕ, true, false, if◌then◌else◌, Option, Some, None}
use Rattle.game_trait.specs.Rules.{Rules}
use Rattle.room_history.specs.Presence.{attached_after}
use Rattle.room_history.specs.declared.call.RoomCall.{RoomCall}
use Rattle.room_history.specs.declared.reply.RoomReply.{RoomReply}
use Rattle.room_object.specs.Entry.{entry}
use Rattle.hall_history.specs.Hall.{Hall, attached_to}
use Rattle.hall_history.specs.Rooms.{with_entry, reply_in}
use Rattle.std.specs.Option.{option_map_or}

-- in the room that the session is attached to
abbrev pub freed : {X : Type 0} → Hall X → ℕ → RoomCall X → ℕ → RoomReply → Hall X × Option RoomReply
freed h pass call room told = (
  record h { rooms = with_entry h.rooms room (entry pass call false); at = attached_to pass (if attached_after true call told then Some room else None) h.at },
  Some told,
)

module _ {X G : Type 0} (rules : X → Rules G) where
  -- the hall after it, and the room's reply; none where the session isn't attached
  abbrev pub frees : Hall X → ℕ → RoomCall X → Hall X × Option RoomReply
  frees h pass call = option_map_or (λ room. freed h pass call room (reply_in rules h.rooms room (entry pass call false))) (h.at pass) (h, None)
