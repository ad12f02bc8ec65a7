-- The map of active players. It is null, or rows (a seat, its stage or none, its count of moves, the least and perhaps
-- the greatest count) in rising order of seats, with a follower or none and a stack of earlier maps, each with its own.
use Rattle.std.specs.Prelude.{◌==◌, ℕ, Bool, false, Option, None, Some, List, [], nat_lt, map, find, is_some, option_map, option_and_then}
use Rattle.stage_map.specs.declared.rows.Row.{Row}
use Rattle.stage_map.specs.declared.active.Kept.{Kept}
use Rattle.std.specs.Option.{option_map_or}

pub record Map : Type 0 where
  -- none where the map is null
  pub rows : Option (List Row)
  -- the spec that is set when the map becomes empty
  pub next : Option ℕ
  -- the latest of the earlier maps first
  pub stack : List Kept

-- the null map: the current seat alone may act
abbrev pub none : Map
none = record { rows = None; next = None; stack = [] }

-- what the context shows of a map
abbrev pub shown_row : Row → ℕ × Option ℕ
shown_row row = (row.seat, row.stage)

abbrev pub shown : Map → Option (List (ℕ × Option ℕ))
shown m = option_map (map shown_row) m.rows

-- the row of a seat, if it is listed
abbrev pub row_of : ℕ → List Row → Option Row
row_of seat listed = find (λ (row : Row). row.seat == seat) listed

abbrev pub row_on : Map → ℕ → Option Row
row_on m seat = option_and_then (row_of seat) m.rows

abbrev pub is_listed : Map → ℕ → Bool
is_listed m seat = is_some (row_on m seat)

-- a seat that is listed and has made fewer moves than its least
abbrev pub is_below : Map → ℕ → Bool
is_below m seat = option_map_or (λ row. nat_lt row.count row.least) (row_on m seat) false

abbrev pub row_count : Option Row → ℕ
row_count None = 0
row_count (Some row) = row.count

-- how many moves a seat has made on the map; none where it isn't listed
abbrev pub count_of : Map → ℕ → ℕ
count_of m seat = row_count (row_on m seat)
