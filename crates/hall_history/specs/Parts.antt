-- Names for parts of what a line makes of a hall, by which the laws speak of them.
use Rattle.std.specs.Prelude.{ℕ, pred, ◌==◌, ◌&&◌, true, false, Bool, List, [], if◌then◌else◌, Option, Some, None, option_map, Result}
use Rattle.game_trait.specs.Rules.{Rules}
use Rattle.game_hall.specs.Answers.{line_of}
use Rattle.game_hall.specs.Core.{Core}
use Rattle.game_hall.specs.declared.answer.Answer.{Answer}
use Rattle.room_history.specs.Presence.{attached_after}
use Rattle.room_history.specs.declared.call.RoomCall.{RoomCall}
use Rattle.room_history.specs.declared.reply.RoomReply.{RoomReply}
use Rattle.room_object.specs.Entry.{Entry, entry}
use Rattle.wire_json.specs.Refusals.{Refusal}
use Rattle.wire_json.specs.declared.client.ClientMsg.{ClientMsg}
use Rattle.hall_history.specs.Freeing.{freed}
use Rattle.hall_history.specs.Hall.{Hall, hall_after}
use Rattle.hall_history.specs.Mark.{Luck, Lucky, takes_memory}
use Rattle.hall_history.specs.Rooms.{reply_in}
use Rattle.hall_history.specs.Script.{to_session}
use Rattle.std.specs.Option.{option_map_or}

-- whether this call is the last one that is made, and whether it is the room that has no memory for it
abbrev pub runs_out : Luck → Bool
runs_out luck = option_map_or (λ luck. luck.0 == 1) luck false

abbrev pub runs_out_there : Luck → Bool
runs_out_there luck = option_map_or (λ luck. luck.0 == 1 && luck.1) luck false

abbrev pub luck_after : Luck → Luck
luck_after luck = option_map (λ luck. (pred luck.0, luck.1)) luck

abbrev pub entry_by : {X : Type 0} → ℕ → RoomCall X → Luck → Entry (RoomCall X)
entry_by pass call luck = entry pass call (runs_out_there luck && takes_memory call)

abbrev pub hall_by : {X : Type 0} → Hall X → ℕ → Result ClientMsg Refusal → Core X × Lucky X → Hall X × Option Answer
hall_by h pass read done = (hall_after h pass read done, done.0.said)

-- the room that a session attached to this one is attached to after its call and the reply
abbrev pub room_after : {X : Type 0} → ℕ → RoomCall X → RoomReply → Option ℕ
room_after room call told = if attached_after true call told then Some room else None

abbrev pub frees_at : {X G : Type 0} → (X → Rules G) → Hall X → ℕ → RoomCall X → Option ℕ → Hall X × Option RoomReply
frees_at rules h pass call at = option_map_or (λ room. freed h pass call room (reply_in rules h.rooms room (entry pass call false))) at (h, None)

abbrev pub answered_text : ℕ → Option Answer → List ℕ
answered_text pass answer = option_map_or (λ said. to_session pass (line_of said)) answer []
