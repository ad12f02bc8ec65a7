-- What is said of the calls of a room when it is put behind its desk, and when it is asked for its row.
use Rattle.std.specs.Prelude.{◌≡◌, ◌<◌, ℕ, false, List, Option, Some, None}
use Rattle.game_trait.specs.Rules.{Rules}
use Rattle.room_history.specs.Presence.{is_attached}
use Rattle.room_history.specs.Room.{number, serials}
use Rattle.room_history.specs.declared.call.RoomCall.{RoomCall}
use Rattle.room_object.specs.Entry.{Entry}

module _ {X G : Type 0} (rules : X → Rules G) where
  -- no pass below this number is attached in a room of this number after these calls
  abbrev pub NobodyIn : ℕ → ℕ → List (Entry (RoomCall X)) → Type 0
  NobodyIn passes room h = (pass : ℕ) → pass < passes → is_attached rules room h pass ≡ false

  -- a row says how many matches these calls made in the room of this number, and the state number of the match that stands; a room that has stopped
  -- has none
  abbrev pub IsRowOf : ℕ → List (Entry (RoomCall X)) → Option (ℕ × Option ℕ) → Type 0
  IsRowOf room h None = Unit {0}
  IsRowOf room h (Some row) = (row.0 ≡ serials rules room h) × (row.1 ≡ number rules room h)
