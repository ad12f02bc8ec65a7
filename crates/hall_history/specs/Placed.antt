-- The hall and its rooms agree on who is attached where.
use Rattle.std.specs.Prelude.{◌≡◌, ℕ, ◌==◌, Bool, false, Option}
use Rattle.game_trait.specs.Rules.{Rules}
use Rattle.room_history.specs.Presence.{is_attached}
use Rattle.hall_history.specs.Hall.{Hall}
use Rattle.hall_history.specs.Rooms.{Rooms, history_of}
use Rattle.std.specs.Option.{option_map_or}

abbrev pub is_at : Option ℕ → ℕ → Bool
is_at at room = option_map_or (λ at. at == room) at false

module _ {X G : Type 0} (rules : X → Rules G) where
  -- a pass is attached, by a room's history, in the room that it is said to be in and in no other
  abbrev pub ArePlaced : Rooms X → (ℕ → Option ℕ) → Type 0
  ArePlaced rooms at = (pass room : ℕ) → is_attached rules room (history_of rooms room) pass ≡ is_at (at pass) room

  abbrev pub IsPlaced : Hall X → Type 0
  IsPlaced h = ArePlaced h.rooms h.at
