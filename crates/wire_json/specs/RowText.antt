-- A match's row as JSON: its game, its name, whether it is over, and who sits in it.
use Rattle.std.specs.Prelude.{◌≤◌, ℕ, List, length, map, codes, Option, Some, None}
use Rattle.std.specs.List.{AllByRecursion}
use Rattle.serde_json.specs.Data.{Data, boolean, string, array, object, Items, Members, member, no_members}
use Rattle.serde_json.specs.View.{items_of}
use Rattle.sheet_json.specs.Seats.{natural, text_or_null}
use Rattle.wire_json.specs.MatchText.{match_text, IsName}
use Rattle.wire_json.specs.declared.match_row.MatchRow.{MatchRow}

-- a seat, and the name of who sits there
abbrev pub Player : Type 0
Player = ℕ × Option (List ℕ)

abbrev pub player_members : Player → Members
player_members player = member (codes "name") (text_or_null player.1) (member (codes "seat") (natural player.0) no_members)

abbrev pub player_data : Player → Data
player_data player = object (player_members player)

abbrev pub players_data : List Player → Items
players_data players = items_of (map player_data players)

abbrev pub from_over : MatchRow → Members
from_over row = member (codes "over") (boolean row.over) (member (codes "players") (array (players_data row.players)) no_members)

abbrev pub row_data : MatchRow → Data
row_data row = object (member (codes "game") (string row.game) (member (codes "match") (string (match_text row.name)) (from_over row)))

abbrev pub rows_data : List MatchRow → Items
rows_data rows = items_of (map row_data rows)

-- ---- forms: a game's name has 1 to 32 bytes, a player's at most 255

abbrev pub IsGameName : List ℕ → Type 0
IsGameName s = (1 ≤ length s) × (length s ≤ 32)

abbrev pub IsShortName : Option (List ℕ) → Type 0
IsShortName None = Unit {0}
IsShortName (Some s) = length s ≤ 255

abbrev pub IsPlayer : Player → Type 0
IsPlayer player = (player.0 ≤ 255) × IsShortName player.1

abbrev pub IsRow : MatchRow → Type 0
IsRow row = (1 ≤ length row.game) × (length row.game ≤ 32) × IsName row.name × AllByRecursion IsPlayer row.players
