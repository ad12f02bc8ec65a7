-- How a match's row is read.
use Rattle.std.specs.Prelude.{List, [], ◌∷◌, Bool, if◌then◌else◌, codes, Option, Some, option_map, option_and_then, ok_or, Result, Ok, Err}
use Rattle.std.specs.Result.{result_ok}
use Rattle.serde_json.specs.Data.{Data, Items, no_items, item}
use Rattle.serde_json.specs.Find.{get, as_bool}
use Rattle.json_tree.specs.Fields.{list_in, natural_in, read_each}
use Rattle.json_tree.specs.Names.{extra_in}
use Rattle.json_tree.specs.Steps.{◌>>=◌}
use Rattle.json_tree.specs.declared.fields.FieldFault.{FieldFault}
use Rattle.json_tree.specs.declared.fields.FieldFault.TheVariants.{Missing, WrongKind, OutOfRange}
use Rattle.sheet_json.specs.Seats.{or_null}
use Rattle.wire_json.specs.Acts.{in_form, object_member_in, text_within}
use Rattle.wire_json.specs.ClientReading.{match_in}
use Rattle.wire_json.specs.RowText.{Player}
use Rattle.wire_json.specs.declared.match_row.MatchRow.{MatchRow}
use Rattle.std.specs.Option.{option_map_or}

abbrev pub boolean_in : Option Data → Result Bool FieldFault
boolean_in found = option_map_or (λ d. ok_or (as_bool d) WrongKind) found (Err Missing)

unfoldable pub player_in : Data → Result Player FieldFault
player_in d = if extra_in (codes "name" ∷ codes "seat" ∷ []) d then Err OutOfRange
    else (or_null (text_within 0 255) (get (codes "name") d) >>= λ name. natural_in 255 (get (codes "seat") d) >>= λ seat. Ok (seat, name))

abbrev pub players_from : Items → Option (List Player)
players_from no_items = Some []
players_from (item d ds) = option_and_then (λ player. option_map (λ rest. player ∷ rest) (players_from ds)) (result_ok (player_in d))

abbrev pub players_in : Option Data → Option (List Player)
players_in found = option_and_then players_from (result_ok (list_in found))

unfoldable pub row_from : Data → Result MatchRow FieldFault
row_from d = if extra_in (codes "game" ∷ codes "match" ∷ codes "over" ∷ codes "players" ∷ []) d then Err OutOfRange
    else (text_within 1 32 (get (codes "game") d) >>= λ game. match_in (get (codes "match") d) >>= λ name. boolean_in (get (codes "over") d) >>= λ over.
    in_form (players_in (get (codes "players") d)) >>= λ players. Ok (record { game = game; name = name; over = over; players = players }))

abbrev pub rows_from : Items → Option (List MatchRow)
rows_from ds = read_each (λ d. result_ok (row_from d)) ds

-- a row that is in no form is out of range, whatever the fault in it
abbrev pub row_in : Option Data → Result MatchRow FieldFault
row_in found = object_member_in found >>= λ d. in_form (result_ok (row_from d))

abbrev pub rows_in : Option Data → Result (List MatchRow) FieldFault
rows_in found = list_in found >>= λ ds. in_form (rows_from ds)
