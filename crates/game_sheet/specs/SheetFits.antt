-- What holds of a sheet that breaks no rule, fact by fact: the bounds of its tables, and a record for each kind of row.
use Rattle.std.specs.Prelude.{◌≡◌, ◌≢◌, ◌<◌, ◌≤◌, ℕ, true, Option, Some, List, length, count_by, slice_get, All}
use Rattle.std.specs.List.{list_all}
use Rattle.std.specs.Char.{is_ascii_alphanumeric}
use Rattle.game_sheet.specs.SheetRules.{broken}
use Rattle.game_sheet.specs.declared.sheet.MoveRow.{MoveRow}
use Rattle.game_sheet.specs.declared.sheet.Order.TheVariants.{Once, Custom}
use Rattle.game_sheet.specs.declared.sheet.PhaseRow.{PhaseRow}
use Rattle.game_sheet.specs.declared.sheet.Place.{Place}
use Rattle.game_sheet.specs.declared.sheet.Sheet.{Sheet}
use Rattle.game_sheet.specs.declared.sheet.SpecRow.{SpecRow}
use Rattle.game_sheet.specs.declared.sheet.StageRow.{StageRow}
use Rattle.game_sheet.specs.declared.sheet.TurnRow.{TurnRow}

-- the name of a move, a phase or a stage
pub record IsName (name : List ℕ) : Type 0 where
  pub least : 1 ≤ length name
  pub most : length name ≤ 32
  pub letters : list_all is_ascii_alphanumeric name ≡ true

-- the names of a table's rows are names, and distinct
pub record NamesFit {Row : Type 0} (name : Row → List ℕ) (rows : List Row) : Type 0 where
  pub each : (place : ℕ) (row : Row) → slice_get rows place ≡ Some row → IsName (name row)
  pub distinct : (place other : ℕ) (row rival : Row) → slice_get rows place ≡ Some row → slice_get rows other ≡ Some rival → name row ≡ name rival → place ≡ other

-- each of these moves is in the sheet's table
abbrev pub AreMoves : Sheet → List ℕ → Type 0
AreMoves sheet ids = All (λ id. id < length sheet.moves) ids

-- a greatest count of moves, where there is one, is at least 1 and at least the least one
pub record LimitsFit (min_moves : ℕ) (max_moves : Option ℕ) : Type 0 where
  pub least : (most : ℕ) → max_moves ≡ Some most → 1 ≤ most
  pub in_order : (most : ℕ) → max_moves ≡ Some most → min_moves ≤ most

-- a list of seats that serves as the order of every match
pub record SeatsFit (sheet : Sheet) (seats : List ℕ) : Type 0 where
  pub least : 1 ≤ length seats
  pub most : length seats ≤ 64
  pub inside : All (λ seat. seat < sheet.min_seats) seats

pub record TurnFits (sheet : Sheet) (turn : TurnRow) : Type 0 where
  pub limits : LimitsFit turn.min_moves turn.max_moves
  pub active : (spec : ℕ) → turn.active ≡ Some spec → spec < length sheet.specs
  pub custom : (seats : List ℕ) → turn.order ≡ Custom seats → SeatsFit sheet seats

pub record PhaseFits (sheet : Sheet) (row : PhaseRow) : Type 0 where
  pub next : (phase : ℕ) → row.next ≡ Some phase → phase < length sheet.phases
  pub moves : (ids : List ℕ) → row.moves ≡ Some ids → AreMoves sheet ids
  pub turn : (turn : TurnRow) → row.turn ≡ Some turn → TurnFits sheet turn

pub record StageFits (sheet : Sheet) (row : StageRow) : Type 0 where
  pub next : (stage : ℕ) → row.next ≡ Some stage → stage < length sheet.stages
  pub moves : (ids : List ℕ) → row.moves ≡ Some ids → AreMoves sheet ids

pub record PlaceFits (sheet : Sheet) (place : Place) : Type 0 where
  pub stage : (stage : ℕ) → place.stage ≡ Some stage → stage < length sheet.stages

pub record SpecFits (sheet : Sheet) (row : SpecRow) : Type 0 where
  pub current : (place : Place) → row.current ≡ Some place → PlaceFits sheet place
  pub others : (place : Place) → row.others ≡ Some place → PlaceFits sheet place
  pub all : (place : Place) → row.all ≡ Some place → PlaceFits sheet place
  pub seats : All (λ seat_place. seat_place.0 < sheet.min_seats) row.value
  pub places : All (λ seat_place. PlaceFits sheet seat_place.1) row.value
  pub limits : LimitsFit row.min_moves row.max_moves
  pub next : (spec : ℕ) → row.next ≡ Some spec → spec < length sheet.specs

pub record SheetFits (sheet : Sheet) : Type 0 where
  pub passes : broken sheet ≡ 0
  pub least : 1 ≤ sheet.min_seats
  pub in_order : sheet.min_seats ≤ sheet.max_seats
  pub most : sheet.max_seats ≤ 16
  pub some_move : 1 ≤ length sheet.moves
  pub moves : length sheet.moves ≤ 64
  pub phases : length sheet.phases ≤ 16
  pub stages : length sheet.stages ≤ 16
  pub specs : length sheet.specs ≤ 16
  pub move_names : NamesFit (λ (row : MoveRow). row.name) sheet.moves
  pub phase_names : NamesFit (λ (row : PhaseRow). row.name) sheet.phases
  pub stage_names : NamesFit (λ (row : StageRow). row.name) sheet.stages
  pub base : AreMoves sheet sheet.base
  pub starts : count_by (λ (row : PhaseRow). row.start) sheet.phases ≤ 1
  pub turn : TurnFits sheet sheet.turn
  pub goes_round : sheet.turn.order ≢ Once
  pub phase : (place : ℕ) (row : PhaseRow) → slice_get sheet.phases place ≡ Some row → PhaseFits sheet row
  pub stage : (place : ℕ) (row : StageRow) → slice_get sheet.stages place ≡ Some row → StageFits sheet row
  pub spec : (place : ℕ) (row : SpecRow) → slice_get sheet.specs place ≡ Some row → SpecFits sheet row
  pub rise : (place : ℕ) (row : SpecRow) (next : ℕ) → slice_get sheet.specs place ≡ Some row → row.next ≡ Some next → place < next
