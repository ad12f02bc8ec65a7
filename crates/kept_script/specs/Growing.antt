-- Which calls a step makes in the one room, the latest first, and how the room's history grows by them.
use Rattle.std.specs.Prelude.{◌≡◌, ℕ, List, [], ◌∷◌, ◌++◌, false, Option, Some, None}
use Rattle.any_game.specs.AnyRules.{named}
use Rattle.any_game.specs.GameKind.{GameKind}
use Rattle.game_sheet.specs.MatchName.{Name}
use Rattle.hall_history.specs.Opening.{own_entry}
use Rattle.hall_history.specs.Rooms.{Rooms, history_of}
use Rattle.match_master.specs.Held.{is_starved}
use Rattle.room_history.specs.declared.call.RoomCall.{RoomCall}
use Rattle.room_history.specs.declared.call.RoomCall.TheVariants.{Create}
use Rattle.room_object.specs.Entry.{entry}
use Rattle.session_driver.specs.Calls.{Did}
use Rattle.session_hall.specs.Opens.{seated_in}
use Rattle.kept_room.specs.Journal.{Calls}

-- those of a session's line
abbrev pub line_calls : ℕ → List Did → Calls
line_calls pass [] = []
line_calls pass (made ∷ earlier) = entry pass made.call (is_starved made.reply) ∷ line_calls pass earlier

-- a Take or a Detach of a session that is attached to this room; it takes no memory
abbrev pub freeing_calls : ℕ → RoomCall GameKind → Option ℕ → Calls
freeing_calls pass made None = []
freeing_calls pass made (Some room) = entry pass made false ∷ []

-- an open asks for a match of its game, if there is such a game, and seats players at the match that is made
abbrev pub creating_calls : Option GameKind → ℕ → List ℕ → Calls
creating_calls None seats seed = []
creating_calls (Some game) seats seed = own_entry (Create game seats seed) ∷ []

abbrev pub seating_calls : Option Name → ℕ → Calls
seating_calls None seats = []
seating_calls (Some name) seats = seated_in name.serial seats []

-- the match that was made, if one was, is in the first room
abbrev pub IsInFirst : Option Name → Type 0
IsInFirst None = Unit {0}
IsInFirst (Some name) = name.room ≡ 0

-- an open for which there was memory made these
pub record AreOpening (game : List ℕ) (seats : ℕ) (seed : List ℕ) (made : Option Name) (more : Calls) : Type 0 where
  pub are : more ≡ seating_calls made seats ++ creating_calls (named game) seats seed
  pub first : IsInFirst made

-- there is one room, and its history has grown by these
abbrev pub Grows : Rooms GameKind → Calls → Rooms GameKind → Type 0
Grows rooms more after = after ≡ (more ++ history_of rooms 0) ∷ []
