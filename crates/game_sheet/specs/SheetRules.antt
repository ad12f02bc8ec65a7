-- The ten rules of a sheet, each a test of the whole sheet, and the number of the first one that it breaks.
use Rattle.std.specs.Prelude.{ℕ, ◌+◌, ◌==◌, ◌&&◌, ◌||◌, Bool, true, false, not, nat_le, nat_lt, Option, None, Some, List, [], ◌∷◌, length, count_by, if◌then◌else◌}
use Rattle.std.specs.List.{list_all, enumerate_from}
use Rattle.std.specs.Char.{is_ascii_alphanumeric, is_ascii_digit, is_ascii_lowercase}
use Rattle.std.specs.Str.{bytes_eq}
use Rattle.game_sheet.specs.declared.sheet.MoveRow.{MoveRow}
use Rattle.game_sheet.specs.declared.sheet.Order.{Order}
use Rattle.game_sheet.specs.declared.sheet.Order.TheVariants.{Once, Custom}
use Rattle.game_sheet.specs.declared.sheet.PhaseRow.{PhaseRow}
use Rattle.game_sheet.specs.declared.sheet.Place.{Place}
use Rattle.game_sheet.specs.declared.sheet.Sheet.{Sheet}
use Rattle.game_sheet.specs.declared.sheet.SpecRow.{SpecRow}
use Rattle.game_sheet.specs.declared.sheet.StageRow.{StageRow}
use Rattle.game_sheet.specs.declared.sheet.TurnRow.{TurnRow}

-- what may be missing passes a test where it is given and passes it, or isn't given
abbrev pub where_given : {A : Type 0} → (A → Bool) → Option A → Bool
where_given test None = true
where_given test (Some x) = test x

-- a name has 1 to 32 bytes, each of its alphabet
abbrev pub is_name : (ℕ → Bool) → List ℕ → Bool
is_name alphabet name = nat_le 1 (length name) && nat_le (length name) 32 && list_all alphabet name

-- lower-case letters, digits and the dash
abbrev pub is_game_letter : ℕ → Bool
is_game_letter c = is_ascii_lowercase c || is_ascii_digit c || (c == 45)

-- the names of a table's rows are distinct: each is that of one row alone
abbrev pub are_distinct : {Row : Type 0} → (Row → List ℕ) → List Row → Bool
are_distinct name rows = list_all (λ row. count_by (λ other. bytes_eq (name other) (name row)) rows == 1) rows

-- each row of a table has a name of letters and digits, which no other row has
abbrev pub are_named : {Row : Type 0} → (Row → List ℕ) → List Row → Bool
are_named name rows = list_all (λ row. is_name is_ascii_alphanumeric (name row)) rows && are_distinct name rows

-- a place is one of a table with so many rows
abbrev pub is_there : ℕ → ℕ → Bool
is_there rows place = nat_lt place rows

-- a greatest count of moves is at least 1 and not below the least one
abbrev pub is_limit : ℕ → ℕ → Bool
is_limit min_moves max_moves = nat_le 1 max_moves && nat_le min_moves max_moves

-- 1. the name is 1 to 32 lower-case letters, digits and dashes
abbrev pub name_fits : Sheet → Bool
name_fits sheet = is_name is_game_letter sheet.name

-- 2. there are 1 to 16 seats, the least count not above the greatest
abbrev pub seats_fit : Sheet → Bool
seats_fit sheet = nat_le 1 sheet.min_seats && nat_le sheet.min_seats sheet.max_seats && nat_le sheet.max_seats 16

-- 3. there are 1 to 64 moves with distinct names
abbrev pub moves_fit : Sheet → Bool
moves_fit sheet = nat_le 1 (length sheet.moves) && nat_le (length sheet.moves) 64 && are_named (λ (row : MoveRow). row.name) sheet.moves

-- 4. there are at most 16 phases with distinct names
abbrev pub phases_fit : Sheet → Bool
phases_fit sheet = nat_le (length sheet.phases) 16 && are_named (λ (row : PhaseRow). row.name) sheet.phases

-- 5. there are at most 16 stages with distinct names
abbrev pub stages_fit : Sheet → Bool
stages_fit sheet = nat_le (length sheet.stages) 16 && are_named (λ (row : StageRow). row.name) sheet.stages

-- 6. every list of moves, the base list and that of a phase or a stage, names moves that are there
abbrev pub lists_fit : Sheet → Bool
lists_fit sheet =
    let are_moves : List ℕ → Bool = list_all (is_there (length sheet.moves)) in
    are_moves sheet.base
    && list_all (λ (row : PhaseRow). where_given are_moves row.moves) sheet.phases
    && list_all (λ (row : StageRow). where_given are_moves row.moves) sheet.stages

-- 7. a match begins in one phase at most, and what follows a phase or a stage is there
abbrev pub nexts_fit : Sheet → Bool
nexts_fit sheet =
    nat_le (count_by (λ (row : PhaseRow). row.start) sheet.phases) 1
    && list_all (λ (row : PhaseRow). where_given (is_there (length sheet.phases)) row.next) sheet.phases
    && list_all (λ (row : StageRow). where_given (is_there (length sheet.stages)) row.next) sheet.stages

-- a turn's limits are in order, and the spec of active players that it begins with is there
abbrev pub turn_fits : Sheet → TurnRow → Bool
turn_fits sheet turn = where_given (is_limit turn.min_moves) turn.max_moves && where_given (is_there (length sheet.specs)) turn.active

-- 8. the turn of the sheet and those of the phases fit
abbrev pub turns_fit : Sheet → Bool
turns_fit sheet = turn_fits sheet sheet.turn && list_all (λ (row : PhaseRow). where_given (turn_fits sheet) row.turn) sheet.phases

-- an order that goes round once
abbrev pub is_once : Order → Bool
is_once Once = true
is_once order = false

-- a list of seats as an order has 1 to 64 entries, each a seat of every match
abbrev pub list_fits : Sheet → List ℕ → Bool
list_fits sheet seats = nat_le 1 (length seats) && nat_le (length seats) 64 && list_all (is_there sheet.min_seats) seats

abbrev pub order_fits : Sheet → Order → Bool
order_fits sheet (Custom seats) = list_fits sheet seats
order_fits sheet order = true

-- 9. the sheet's own order doesn't end, and each list of seats fits
abbrev pub orders_fit : Sheet → Bool
orders_fit sheet =
    not (is_once sheet.turn.order)
    && order_fits sheet sheet.turn.order
    && list_all (λ (row : PhaseRow). where_given (λ (turn : TurnRow). order_fits sheet turn.order) row.turn) sheet.phases

-- a place of active players names a stage that is there, or none
abbrev pub place_fits : Sheet → Place → Bool
place_fits sheet place = where_given (is_there (length sheet.stages)) place.stage

-- a spec at a place of its table: its stages and seats are there, its limits are in order, and what follows it stands below it in the table
abbrev pub spec_fits : Sheet → ℕ → SpecRow → Bool
spec_fits sheet place row =
    where_given (place_fits sheet) row.current
    && where_given (place_fits sheet) row.others
    && where_given (place_fits sheet) row.all
    && list_all (λ seat_place. is_there sheet.min_seats seat_place.0 && place_fits sheet seat_place.1) row.value
    && where_given (is_limit row.min_moves) row.max_moves
    && where_given (λ next. nat_lt place next && is_there (length sheet.specs) next) row.next

-- 10. there are at most 16 specs, and each fits
abbrev pub specs_fit : Sheet → Bool
specs_fit sheet = nat_le (length sheet.specs) 16 && list_all (λ place_row. spec_fits sheet place_row.0 place_row.1) (enumerate_from 0 sheet.specs)

-- which of the ten rules the sheet keeps, in their order
abbrev pub kept : Sheet → List Bool
kept sheet = name_fits sheet ∷ seats_fit sheet ∷ moves_fit sheet ∷ phases_fit sheet ∷ stages_fit sheet ∷ lists_fit sheet ∷ nexts_fit sheet ∷ turns_fit sheet ∷ orders_fit sheet ∷ specs_fit sheet ∷ []

-- the number of the first rule that isn't kept, counted from one number on, or 0
abbrev pub first_broken : ℕ → List Bool → ℕ
first_broken rule [] = 0
first_broken rule (is_kept ∷ later) = if is_kept then first_broken (rule + 1) later else rule

-- the number of the first rule that a sheet breaks, or 0
unfoldable pub broken : Sheet → ℕ
broken sheet = first_broken 1 (kept sheet)
