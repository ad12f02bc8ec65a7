-- A request runs to its end: as long as a call is wanted it is made, and the core hears the reply.
use Rattle.std.specs.Prelude.{◌≡◌, ℕ, zero, suc, false, List, [], ◌∷◌, Option, Some, None}
use Rattle.room_history.specs.declared.call.RoomCall.{RoomCall}
use Rattle.room_history.specs.declared.reply.RoomReply.{RoomReply}
use Rattle.room_history.specs.declared.reply.RoomReply.TheVariants as reply
use Rattle.game_hall.specs.Core.{Core, answered, asked}
use Rattle.game_hall.specs.Requests.{is_starved, with_row}
use Rattle.wire_json.specs.declared.match_row.MatchRow.{MatchRow}

-- over anything that replies to calls, such as rooms by their histories, or a list of replies
module _ {X S : Type 0} (named : List ℕ → Option X) (ask : ℕ → RoomCall X → S → RoomReply × S) where
  abbrev pub goes_on : (Core X → S → Core X × S) → Option (ℕ × RoomCall X) → Core X → S → Core X × S
  goes_on rest None c s = (c, s)
  goes_on rest (Some call) c s = let told = ask call.0 call.1 s in rest (answered named (asked c) told.0) told.1

  -- at most so many calls
  abbrev pub run : ℕ → Core X → S → Core X × S
  run zero c s = (c, s)
  run (suc n) c s = goes_on (run n) c.call c s

-- the replies of a list, one for each call, and then want of memory
abbrev pub reply_next : {X : Type 0} → ℕ → RoomCall X → List RoomReply → RoomReply × List RoomReply
reply_next room call [] = (reply.NoMemory, [])
reply_next room call (told ∷ replies) = (told, replies)

-- no reply is want of memory
abbrev pub AreServed : List RoomReply → Type 0
AreServed [] = Unit {0}
AreServed (told ∷ replies) = (is_starved told ≡ false) × AreServed replies

-- the rows of a game that rooms show, in the order of the rooms
abbrev pub rows_from : List ℕ → List MatchRow → List RoomReply → List MatchRow
rows_from game rows [] = rows
rows_from game rows (told ∷ replies) = rows_from game (with_row game rows told) replies
