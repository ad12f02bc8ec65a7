-- How the value of a context is read back: each member in its form and no other, its phase and stages on the sheet.
use Rattle.std.specs.Prelude.{ℕ, List, [], ◌∷◌, length, ◌+◌, ◌==◌, zero, suc, Bool, false, codes, decimal, if◌then◌else◌, Option, Some, None, option_map, option_and_then, is_some, unwrap_or}
use Rattle.std.specs.Result.{result_ok}
use Rattle.serde_json.specs.Data.{Data}
use Rattle.serde_json.specs.Events.{members_len}
use Rattle.serde_json.specs.Find.{get, as_null, as_bool, as_object}
use Rattle.json_tree.specs.Fields.{list_in}
use Rattle.json_tree.specs.Names.{extra_in}
use Rattle.game_sheet.specs.declared.act.Outcome.{Outcome}
use Rattle.game_sheet.specs.declared.act.Outcome.TheVariants.{Winner, Draw, Ended}
use Rattle.game_sheet.specs.declared.ctx.Ctx.{Ctx}
use Rattle.game_sheet.specs.declared.sheet.Sheet.{Sheet}
use Rattle.game_sheet.specs.SheetNames.{phase_of, stage_of}
use Rattle.sight_reading.specs.Reading.{◌>>=◌, natural_at, of_members, unless_null, naturals_from, id_or_null}
use Rattle.sight_reading.specs.declared.ctx_read.Counts.{Counts}
use Rattle.sight_reading.specs.declared.ctx_read.SeatStage.{SeatStage}
use Rattle.sight_reading.specs.declared.ctx_read.SeatStage.TheVariants.{Absent, Malformed, Active}
use Rattle.std.specs.Option.{option_map_or}

abbrev pub Rows : Type 0
Rows = List (ℕ × Option ℕ)

-- what an object of active players says of a seat
abbrev pub seat_stage : Sheet → Option Data → SeatStage
seat_stage sheet found = option_map_or (λ d. option_map_or Active (id_or_null (stage_of sheet) d) Malformed) found Absent

-- a seat's row, where it has one, before those of later seats
abbrev pub before_rows : ℕ → SeatStage → Option Rows → Option Rows
before_rows seat Absent rows = rows
before_rows seat Malformed rows = None
before_rows seat (Active stage) rows = option_map (λ rs. (seat, stage) ∷ rs) rows

-- the rows of n seats from one on, where each that the object names has a stage
unfoldable pub rows_among : Sheet → Data → ℕ → ℕ → Option Rows
rows_among sheet d seat zero = Some []
rows_among sheet d seat (suc n) = before_rows seat (seat_stage sheet (get (decimal seat) d)) (rows_among sheet d (seat + 1) n)

-- the rows, where there is one for each of as many members
abbrev pub as_many : ℕ → Option Rows → Option Rows
as_many count rows = option_and_then (λ rows. if length rows == count then Some rows else None) rows

-- null, or the rows of all seats of an object that names nothing else
abbrev pub active_from : Sheet → Data → Option (Option Rows)
active_from sheet d = unless_null d (option_and_then (λ ms. as_many (members_len ms) (rows_among sheet d 0 256)) (as_object d))

abbrev pub active_in : Sheet → Option Data → Option (Option Rows)
active_in sheet found = option_and_then (active_from sheet) found

unfoldable pub winner_in : Data → Option ℕ
winner_in d = of_members (codes "winner" ∷ []) d (natural_at 255 (get (codes "winner") d))

-- the object has this member alone, and it is true
abbrev pub is_flag : List ℕ → Data → Bool
is_flag name d = if extra_in (name ∷ []) d then false else unwrap_or (option_and_then as_bool (get name d)) false

unfoldable pub outcome_in : Data → Option Outcome
outcome_in d = option_map_or (λ seat. Some (Winner seat)) (winner_in d)
    (if is_flag (codes "draw") d then Some Draw else if is_flag (codes "ended") d then Some Ended else None)

-- null, or an object of an outcome
abbrev pub over_in : Option Data → Option (Option Outcome)
over_in found = option_and_then (λ d. if is_some (as_null d) then Some None else if is_some (as_object d) then option_map Some (outcome_in d) else None) found

abbrev pub order_in : Option Data → Option (List ℕ)
order_in found = option_and_then naturals_from (result_ok (list_in found))

abbrev pub phase_in : Sheet → Option Data → Option (Option ℕ)
phase_in sheet found = option_and_then (id_or_null (phase_of sheet)) found

unfoldable pub counts_in : Data → Option Counts
counts_in d = natural_at 255 (get (codes "currentPlayer") d) >>= λ current. natural_at 4294967295 (get (codes "numMoves") d) >>= λ moves.
    natural_at 255 (get (codes "numPlayers") d) >>= λ seats. natural_at 255 (get (codes "playOrderPos") d) >>= λ pos.
    natural_at 4294967295 (get (codes "turn") d) >>= λ turn. Some (record { current = current; moves = moves; seats = seats; pos = pos; turn = turn })

-- the context of these parts, with the active players that a value has
abbrev pub from_order : Sheet → Data → Option Outcome → Option ℕ → Counts → List ℕ → Option Ctx
from_order sheet d over phase n order = active_in sheet (get (codes "activePlayers") d) >>= λ active.
    Some (record { seats = n.seats; turn = n.turn; current = n.current; order = order; pos = n.pos; phase = phase; active = active; moves = n.moves; over = over })

unfoldable pub ctx_in : Sheet → Data → Option Ctx
ctx_in sheet d = of_members (codes "activePlayers" ∷ codes "currentPlayer" ∷ codes "gameover" ∷ codes "numMoves" ∷ codes "numPlayers" ∷ codes "phase"
    ∷ codes "playOrder" ∷ codes "playOrderPos" ∷ codes "turn" ∷ []) d
    (over_in (get (codes "gameover") d) >>= λ over. phase_in sheet (get (codes "phase") d) >>= λ phase. counts_in d >>= λ counts.
    order_in (get (codes "playOrder") d) >>= λ order. from_order sheet d over phase counts order)
