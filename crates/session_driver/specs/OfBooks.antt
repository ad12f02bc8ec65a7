-- Rooms in one thread: what a call in one of them comes to.
use Rattle.std.specs.Prelude.{◌≡◌, ◌<◌, ◌∷◌, ℕ, Bool, true, List, length, slice_index_or, slice_set}
use Rattle.any_game.specs.AnyRules.{any_rules}
use Rattle.any_game.specs.GameKind.{GameKind}
use Rattle.match_master.specs.Held.{is_starved, may_starve}
use Rattle.room_history.specs.Room.{reply}
use Rattle.room_history.specs.declared.call.RoomCall.{RoomCall}
use Rattle.room_object.specs.Entry.{Entry, entry}
use Rattle.session_driver.specs.Calls.{Did}

-- the calls of a room, the latest first
abbrev pub RoomCalls : Type 0
RoomCalls = List (Entry (RoomCall GameKind))

-- over rooms with a number and the histories that they stand for
module _ {B : Type 0} (number : B → ℕ) (stands_for : B → RoomCalls → Type 0) where
  -- each room has the number of its place, and stands for some history
  abbrev pub AreInOrder : List B → Type 0
  AreInOrder books = (room : ℕ) (d : B) → room < length books → (number (slice_index_or books room d) ≡ room) × ((h : RoomCalls) × stands_for (slice_index_or books room d) h)

-- and whether they are whole
module _ {B : Type 0} (number : B → ℕ) (stands_for : B → RoomCalls → Type 0) (whole : B → Bool) where
  -- The call was made in its room. The room replied as each history says that it stands for, and then stands for that history with the
  -- call. A room that is whole after it was so before, and starves only a call that takes memory.
  pub record CallsBook (books : List B) (pass : ℕ) (made : Did) (after : List B) : Type 0 where
    pub old : B
    pub book : B
    pub here : made.room < length books
    pub is : old ≡ slice_index_or books made.room old
    pub room : number book ≡ number old
    pub told : (h : RoomCalls) → stands_for old h → made.reply ≡ reply any_rules (number old) h (entry pass made.call (is_starved made.reply))
    pub stands : (h : RoomCalls) → stands_for old h → stands_for book (entry pass made.call (is_starved made.reply) ∷ h)
    pub fed : whole book ≡ true → is_starved made.reply ≡ true → may_starve made.call ≡ true
    pub stopped : whole book ≡ true → whole old ≡ true
    pub set : after ≡ slice_set books made.room book
