-- How a session's line went: it was served, or there was no memory for it. Then either the line wasn't read, or it was read and made so many
-- calls, of which the last met the want of memory, in its room or at its reply. A mark that asks for more calls than are made, or for a
-- want of memory where none is taken, is as that of a line that was served.
use Rattle.std.specs.Prelude.{ℕ, pred, ◌==◌, Bool, true, false, ◌&&◌, if◌then◌else◌, Option, option_map}
use Rattle.game_trait.specs.Rules.{Rules}
use Rattle.room_history.specs.declared.call.RoomCall.{RoomCall}
use Rattle.room_history.specs.declared.call.RoomCall.TheVariants.{Create, Look, Attach, Submit}
use Rattle.room_history.specs.declared.reply.RoomReply.{RoomReply}
use Rattle.room_history.specs.declared.reply.RoomReply.TheVariants.{NoMemory, Busy, Looked}
use Rattle.room_object.specs.Entry.{entry}
use Rattle.hall_history.specs.Rooms.{Rooms, with_entry, reply_in}
use Rattle.std.specs.Option.{option_map_or}

pub data Mark : Type 0 where
  Served : Mark
  Unread : Mark
  Starved : ℕ → Bool → Mark

-- how many calls are made yet until there is no memory, and whether it is the room that has none
abbrev pub Luck : Type 0
Luck = Option (ℕ × Bool)

-- what is asked of a roster, a Take, a Detach and a Clear take none
abbrev pub takes_memory : {X : Type 0} → RoomCall X → Bool
takes_memory (Create game seats seed) = true
takes_memory (Look serial) = true
takes_memory (Attach serial viewer protocol) = true
takes_memory (Submit s) = true
takes_memory call = false

-- a session takes memory to go on from these replies, and from no other
abbrev pub unheard : RoomReply → RoomReply
unheard (Looked row) = NoMemory
unheard Busy = NoMemory
unheard told = told

-- rooms with the luck of a request that goes on
pub record Lucky (X : Type 0) : Type 0 where
  pub rooms : Rooms X
  pub luck : Luck

-- at the last call that is made
abbrev pub told_by : Luck → RoomReply → RoomReply
told_by luck told = if option_map_or (λ luck. luck.0 == 1) luck false then unheard told else told

module _ {X G : Type 0} (rules : X → Rules G) where
  -- a call of a pass, which goes into its room's history
  abbrev pub ask_rooms : ℕ → ℕ → RoomCall X → Lucky X → RoomReply × Lucky X
  ask_rooms pass room call s =
      let made = entry pass call (option_map_or (λ luck. luck.0 == 1 && luck.1) s.luck false && takes_memory call) in
      (told_by s.luck (reply_in rules s.rooms room made), record { rooms = with_entry s.rooms room made; luck = option_map (λ luck. (pred luck.0, luck.1)) s.luck })
