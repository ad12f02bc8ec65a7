-- How rows change: a row comes in or replaces its seat's, and a seat leaves. Rows stay in rising order of seats.
-- A spec puts first the current seat, then the others of the play order, then all of it, then the seats that it names;
-- a later row replaces an earlier one of the same seat.
use Rattle.std.specs.Prelude.{◌==◌, ℕ, Option, None, Some, List, [], ◌∷◌, ◌++◌, nat_lt, not, filter, map, fold}
use Rattle.game_sheet.specs.declared.sheet.Place.{Place}
use Rattle.game_sheet.specs.declared.sheet.SpecRow.{SpecRow}
use Rattle.stage_map.specs.declared.rows.Row.{Row}
use Rattle.std.specs.Option.{option_map_or}

abbrev pub below : ℕ → List Row → List Row
below seat listed = filter (λ (row : Row). nat_lt row.seat seat) listed

abbrev pub above : ℕ → List Row → List Row
above seat listed = filter (λ (row : Row). nat_lt seat row.seat) listed

-- a row comes in at its place, or replaces the one of its seat
abbrev pub put : Row → List Row → List Row
put row listed = below row.seat listed ++ row ∷ above row.seat listed

-- a seat leaves
abbrev pub without : ℕ → List Row → List Row
without seat listed = below seat listed ++ above seat listed

-- a seat in a stage with no move counted and no limits
abbrev pub unlimited : ℕ → ℕ → Row
unlimited seat stage = record { seat = seat; stage = Some stage; count = 0; least = 0; most = None }

-- a seat where a spec puts it, with the spec's limits and no move counted
abbrev pub placed : SpecRow → Place → ℕ → Row
placed spec place seat = record { seat = seat; stage = place.stage; count = 0; least = spec.min_moves; most = spec.max_moves }

abbrev pub put_all : SpecRow → List (ℕ × Place) → List Row → List Row
put_all spec entries listed = fold (λ listed entry. put (placed spec entry.1 entry.0) listed) listed entries

-- seats that are put at one place, where the spec has one
abbrev pub each_at : Option Place → List ℕ → List (ℕ × Place)
each_at place seats = option_map_or (λ place. map (λ seat. (seat, place)) seats) place []

abbrev pub others : ℕ → List ℕ → List ℕ
others current order = filter (λ seat. not (seat == current)) order

-- the seats that a spec puts, in the order in which it does
abbrev pub entries_of : SpecRow → ℕ → List ℕ → List (ℕ × Place)
entries_of spec current order = each_at spec.current (current ∷ []) ++ each_at spec.others (others current order) ++ each_at spec.all order ++ spec.value

-- the rows that a spec gives a new map
abbrev pub spec_rows : SpecRow → ℕ → List ℕ → List Row
spec_rows spec current order = put_all spec (entries_of spec current order) []
