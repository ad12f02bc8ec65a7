-- Entries put in turn.
use Rattle.std.proofs.Common.{◌≡◌, ℕ, List, [], ◌∷◌, ◌++◌, refl}
use Rattle.game_sheet.specs.declared.sheet.Place.{Place}
use Rattle.game_sheet.specs.declared.sheet.SpecRow.{SpecRow}
use Rattle.stage_map.specs.declared.rows.Row.{Row}
use Rattle.stage_map.specs.Rows.{placed, put, put_all}

-- entries after others are put on what those come to
pub put_all_append : (spec : SpecRow) (first later : List (ℕ × Place)) (listed : List Row) → put_all spec (first ++ later) listed ≡ put_all spec later (put_all spec first listed)
put_all_append spec [] later listed = refl
put_all_append spec (entry ∷ first) later listed = put_all_append spec first later (put (placed spec entry.1 entry.0) listed)
