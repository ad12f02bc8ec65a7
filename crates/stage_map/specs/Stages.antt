-- How a seat's stage is set and ends, and how its moves are counted. When a stage ends the seat goes to the stage's next,
-- with no move counted and no limits, or leaves the map, which is settled where that empties it.
use Rattle.std.specs.Prelude.{◌+◌, ℕ, Bool, false, Option, None, Some, List, [], ◌∷◌, slice_get, nat_lt, nat_le, option_map, option_and_then, if◌then◌else◌}
use Rattle.game_sheet.specs.declared.sheet.Sheet.{Sheet}
use Rattle.game_sheet.specs.declared.sheet.StageRow.{StageRow}
use Rattle.stage_map.specs.declared.rows.Row.{Row}
use Rattle.stage_map.specs.declared.ended.Ended.{Ended}
use Rattle.stage_map.specs.declared.ended.Ended.TheVariants.{Done, NotListed, Below}
use Rattle.stage_map.specs.Active.{Map, row_on}
use Rattle.stage_map.specs.Rows.{put, without, unlimited}
use Rattle.stage_map.specs.Set.{settle}
use Rattle.std.specs.Option.{option_map_or}

-- a stage is set: a null map becomes one with that seat alone
abbrev pub set_stage : ℕ → ℕ → Map → Map
set_stage seat stage m = option_map_or (λ listed. record m { rows = Some (put (unlimited seat stage) listed) }) m.rows
    (record { rows = Some (unlimited seat stage ∷ []); next = None; stack = [] })

-- the stage after a seat's stage; a seat without a stage has none
abbrev pub stage_after : Sheet → Option ℕ → Option ℕ
stage_after sheet stage = option_and_then (λ stage. option_and_then (λ (row : StageRow). row.next) (slice_get sheet.stages stage)) stage

abbrev pub rows_after : Option ℕ → ℕ → List Row → List Row
rows_after next seat listed = option_map_or (λ next. put (unlimited seat next) listed) next (without seat listed)

-- the stage of the seat of this row ends
abbrev pub stage_left : Sheet → Row → ℕ → List ℕ → Map → Map
stage_left sheet row current order m = settle sheet current order (record m { rows = option_map (rows_after (stage_after sheet row.stage) row.seat) m.rows })

-- the map after an endStage of a seat: nothing is done where it isn't listed or its count is below its least
abbrev pub end_stage : Sheet → ℕ → ℕ → List ℕ → Map → Map
end_stage sheet seat current order m = option_map_or (λ row. if nat_lt row.count row.least then m else stage_left sheet row current order m) (row_on m seat) m

abbrev pub row_end : Option Row → Ended
row_end None = NotListed
row_end (Some row) = if nat_lt row.count row.least then Below else Done

-- what an endStage of a seat comes to
abbrev pub ending : Map → ℕ → Ended
ending m seat = row_end (row_on m seat)

abbrev pub is_reached : Option ℕ → ℕ → Bool
is_reached limit count = option_map_or (λ most. nat_le most count) limit false

abbrev pub counted : Row → Row
counted row = record row { count = row.count + 1 }

abbrev pub count_row : Sheet → Option Row → ℕ → List ℕ → Map → Map
count_row sheet None current order m = m
count_row sheet (Some row) current order m = if is_reached row.most (row.count + 1) then stage_left sheet row current order m else record m { rows = option_map (put (counted row)) m.rows }

-- the map after a counted move of a seat, whose stage ends when the count reaches the greatest
abbrev pub count_move : Sheet → ℕ → ℕ → List ℕ → Map → Map
count_move sheet seat current order m = count_row sheet (row_on m seat) current order m
