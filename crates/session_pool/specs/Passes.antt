-- Rooms behind desks: the passes of a session, one for each room, and what a call in a room does to them.
use Rattle.std.specs.Prelude.{◌≡◌, ℕ, Bool, true, List, [], ◌∷◌, map, Some, slice_get, slice_set}
use Rattle.any_game.specs.AnyRules.{any_rules}
use Rattle.any_game.specs.GameKind.{GameKind}
use Rattle.match_master.specs.Held.{is_starved}
use Rattle.room_desk.specs.History.{Called, Held, SetUp, held}
use Rattle.room_history.specs.Room.{reply}
use Rattle.room_history.specs.declared.call.RoomCall.{RoomCall}
use Rattle.room_object.specs.Entry.{Entry, entry}
use Rattle.session_driver.specs.Calls.{Did}

-- a pass: its desk, its number, and the history of the room that it has seen
abbrev pub Pass : Type 0
Pass = Held (RoomCall GameKind)

-- a pass as it was dealt, with nothing seen
abbrev pub unseen : Pass → Pass
unseen p = held p.desk p.number [] []

abbrev pub dealt_by : ℕ → SetUp → Pass
dealt_by number d = held d.desk number [] []

-- the passes are those of this number, one for each desk, in the order of the desks
abbrev pub Belong : List SetUp → ℕ → List Pass → Type 0
Belong desks number passes = map unseen passes ≡ map (dealt_by number) desks

-- The call was made by the pass of its room. That pass has then seen the room's history longer by what others did and by the call, which
-- is replied as the history says; the other passes are as they were. Only a call that its room may refuse for want of memory is replied so.
abbrev pub CallsDesk : (RoomCall GameKind → Bool) → List Pass → Did → List Pass → Type 0
CallsDesk may_refuse passes made after = (p : Pass) × (seen : List (Entry (RoomCall GameKind))) × (slice_get passes made.room ≡ Some p)
    × Called (reply any_rules p.desk.object) p.seen (entry p.number made.call (is_starved made.reply)) made.reply seen
    × (after ≡ slice_set passes made.room (held p.desk p.number p.before seen))
    × (is_starved made.reply ≡ true → may_refuse made.call ≡ true)

-- the number of passes that have one: that of the first
abbrev pub number_of : List Pass → ℕ
number_of [] = 0
number_of (p ∷ passes) = p.number
