-- The small parts of the JSON values that a player is sent. A name that isn't on the sheet shows as null.
use Rattle.std.specs.Prelude.{ℕ, List, map, Option, option_map, slice_get}
use Rattle.serde_json.specs.Data.{Data, null, array}
use Rattle.serde_json.specs.View.{items_of}
use Rattle.game_sheet.specs.declared.sheet.Sheet.{Sheet}
use Rattle.sheet_json.specs.Seats.{natural, text_or_null}
use Rattle.std.specs.Option.{option_map_or}

abbrev pub naturals : List ℕ → Data
naturals ns = array (items_of (map natural ns))

abbrev pub move_name : Sheet → ℕ → Data
move_name sheet id = text_or_null (option_map (λ row. row.name) (slice_get sheet.moves id))

abbrev pub phase_name : Sheet → ℕ → Data
phase_name sheet id = text_or_null (option_map (λ row. row.name) (slice_get sheet.phases id))

abbrev pub stage_name : Sheet → ℕ → Data
stage_name sheet id = text_or_null (option_map (λ row. row.name) (slice_get sheet.stages id))

abbrev pub phase_or_null : Sheet → Option ℕ → Data
phase_or_null sheet phase = option_map_or (phase_name sheet) phase null

abbrev pub stage_or_null : Sheet → Option ℕ → Data
stage_or_null sheet stage = option_map_or (stage_name sheet) stage null
