-- A session's list of a game's matches, with memory: the rows of those that stand in the rooms.
use Rattle.std.specs.Prelude.{ℕ, zero, suc, ◌+◌, List, [], ◌∷◌, ◌++◌, if◌then◌else◌, bytes_eq, Option, Some, None, Ok}
use Rattle.game_trait.specs.Rules.{Rules}
use Rattle.game_hall.specs.Core.{Core}
use Rattle.room_history.specs.Match.{Match}
use Rattle.room_history.specs.Reply.{match_row}
use Rattle.room_history.specs.Room.{room_of}
use Rattle.wire_json.specs.declared.client.ClientMsg.TheVariants.{Matches}
use Rattle.wire_json.specs.declared.match_row.MatchRow.{MatchRow}
use Rattle.hall_history.specs.Hall.{Hall, request}
use Rattle.hall_history.specs.Mark.{Lucky, Served}
use Rattle.hall_history.specs.Rooms.{Rooms, history_of}

abbrev pub row_of_game : List ℕ → MatchRow → List MatchRow
row_of_game game row = if bytes_eq row.game game then row ∷ [] else []

module _ {X G : Type 0} (rules : X → Rules G) (game : List ℕ) where
  -- the row of the match that stands in a room, where it is of the game
  abbrev pub standing_row : ℕ → Option (Match X G) → List MatchRow
  standing_row room None = []
  standing_row room (Some m) = row_of_game game (match_row rules room m)

  -- those of so many rooms from one on, in the order of the rooms
  abbrev pub standing_rows : Rooms X → ℕ → ℕ → List MatchRow
  standing_rows rooms room zero = []
  standing_rows rooms room (suc n) = standing_row room (room_of rules room (history_of rooms room)).standing ++ standing_rows rooms (room + 1) n

module _ {X G : Type 0} (named : List ℕ → Option X) (rules : X → Rules G) (tape : ℕ → List ℕ) where
  abbrev pub list_done : Hall X → ℕ → List ℕ → Core X × Lucky X
  list_done h pass game = request named rules tape Served h pass (Ok (Matches game))
