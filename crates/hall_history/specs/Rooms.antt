-- The rooms of a server, each by the history of its calls, the latest first. Room 0's comes first.
use Rattle.std.specs.Prelude.{ℕ, zero, suc, List, [], ◌∷◌}
use Rattle.game_trait.specs.Rules.{Rules}
use Rattle.room_history.specs.Room.{reply}
use Rattle.room_history.specs.declared.call.RoomCall.{RoomCall}
use Rattle.room_history.specs.declared.reply.RoomReply.{RoomReply}
use Rattle.room_object.specs.Entry.{Entry}

abbrev pub History : Type 0 → Type 0
History X = List (Entry (RoomCall X))

abbrev pub Rooms : Type 0 → Type 0
Rooms X = List (History X)

-- a room that isn't there has no history
abbrev pub history_of : {X : Type 0} → Rooms X → ℕ → History X
history_of [] room = []
history_of (h ∷ rooms) zero = h
history_of (h ∷ rooms) (suc room) = history_of rooms room

abbrev pub with_entry : {X : Type 0} → Rooms X → ℕ → Entry (RoomCall X) → Rooms X
with_entry [] room e = []
with_entry (h ∷ rooms) zero e = (e ∷ h) ∷ rooms
with_entry (h ∷ rooms) (suc room) e = h ∷ with_entry rooms room e

abbrev pub reply_in : {X G : Type 0} → (X → Rules G) → Rooms X → ℕ → Entry (RoomCall X) → RoomReply
reply_in rules rooms room e = reply rules room (history_of rooms room) e
