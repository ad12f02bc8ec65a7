-- What a server reports at its end: how many sessions there were, and of each room that has had a match its last serial and the state number of
-- the match that stands, or a dash; or that the room has stopped.
use Rattle.std.specs.Prelude.{ℕ, ◌+◌, ◌==◌, List, [], ◌∷◌, ◌++◌, codes, decimal, if◌then◌else◌, Option, Some, None}
use Rattle.any_game.specs.AnyRules.{any_rules}
use Rattle.room_history.specs.Room.{number, serials}
use Rattle.door_serve.specs.Rooms.{Calls}

abbrev pub number_text : Option ℕ → List ℕ
number_text None = codes "-"
number_text (Some n) = decimal n

abbrev pub row_text : ℕ → ℕ → Option ℕ → List ℕ
row_text room serial standing =
    if serial == 0 then [] else codes "room " ++ decimal room ++ codes " serial " ++ decimal serial ++ codes " number " ++ number_text standing ++ 10 ∷ []

abbrev pub stopped_text : ℕ → List ℕ
stopped_text room = codes "room " ++ decimal room ++ codes " stopped" ++ 10 ∷ []

-- by how many matches a room has had, and the state number of the one that stands; none where it has stopped
abbrev pub line_text : ℕ → Option (ℕ × Option ℕ) → List ℕ
line_text room None = stopped_text room
line_text room (Some row) = row_text room row.0 row.1

-- the row of a room in which these calls were made, or that has stopped
abbrev pub room_text : ℕ → Option Calls → List ℕ
room_text room None = stopped_text room
room_text room (Some h) = row_text room (serials any_rules room h) (number any_rules room h)

-- the rows of rooms, numbered from one on
abbrev pub rooms_text : ℕ → List (Option Calls) → List ℕ
rooms_text room [] = []
rooms_text room (row ∷ rows) = room_text room row ++ rooms_text (room + 1) rows

abbrev pub sessions_text : ℕ → List ℕ
sessions_text count = codes "sessions " ++ decimal count ++ 10 ∷ []

abbrev pub report : ℕ → List (Option Calls) → List ℕ
report count rows = sessions_text count ++ rooms_text 0 rows
