-- A row reads back from its text.
use Rattle.std.proofs.Common.{◌≤◌, IsUtf8, codes, refl, arith}
use Rattle.serde_json.specs.Data.{member, string}
use Rattle.json_tree.specs.Writable.{IsWritable, ItemsAreWritable}
use Rattle.json_tree.proofs.WritableRows.{fixed}
use Rattle.wire_json.specs.MatchText.{IsName, match_text}
use Rattle.wire_json.specs.RowText.{Player, player_members, player_data, players_data, from_over, row_data}
use Rattle.wire_json.specs.declared.match_row.MatchRow.{MatchRow}
use Rattle.wire_json.proofs.Texts.{match_utf8}
use Rattle.sheet_json.specs.Seats.{text_or_null}

pub player_writable : (player : Player) → IsWritable (text_or_null player.1) → player.0 ≤ 255 → IsWritable (player_data player)
player_writable player name seat = fixed (player_members player) refl (name, (omega arith, tt))

pub row_writable : (row : MatchRow) → IsUtf8 row.game → IsName row.name → ItemsAreWritable (players_data row.players) → IsWritable (row_data row)
row_writable row game name players = fixed (member (codes "game") (string row.game) (member (codes "match") (string (match_text row.name)) (from_over row))) refl (game, (match_utf8 row.name name, (tt, (players, tt))))
