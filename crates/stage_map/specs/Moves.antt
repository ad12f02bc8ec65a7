-- Who may act, and the moves that a seat has: its stage's list where there is one, else the phase's, else the game's.
use Rattle.std.specs.Prelude.{◌==◌, ℕ, Bool, Option, None, List, [], slice_get, is_some, option_and_then, if◌then◌else◌, unwrap_or}
use Rattle.game_sheet.specs.declared.sheet.Sheet.{Sheet}
use Rattle.game_sheet.specs.declared.sheet.StageRow.{StageRow}
use Rattle.game_sheet.specs.declared.sheet.PhaseRow.{PhaseRow}
use Rattle.game_sheet.specs.declared.ctx.Ctx.{Ctx}
use Rattle.std.specs.Option.{option_map_or}
use Rattle.std.specs.Map.{lookup}

-- where the rows of a map put a seat, if they list it: in a stage, or listed without one
abbrev pub place_of : List (ℕ × Option ℕ) → ℕ → Option (Option ℕ)
place_of rows seat = lookup (λ active. active == seat) rows

-- a seat may act where it is the current one and no map stands, or where the map lists it
abbrev pub may : Ctx → ℕ → Bool
may ctx seat = option_map_or (λ rows. is_some (place_of rows seat)) ctx.active (seat == ctx.current)

abbrev pub stage_moves : Sheet → Option ℕ → Option (List ℕ)
stage_moves sheet stage = option_and_then (λ stage. option_and_then (λ (row : StageRow). row.moves) (slice_get sheet.stages stage)) stage

abbrev pub phase_moves : Sheet → Option ℕ → Option (List ℕ)
phase_moves sheet phase = option_and_then (λ phase. option_and_then (λ (row : PhaseRow). row.moves) (slice_get sheet.phases phase)) phase

-- the moves of a seat that may act, in this phase and at this place
abbrev pub moves_at : Sheet → Option ℕ → Option ℕ → List ℕ
moves_at sheet phase stage = unwrap_or (stage_moves sheet stage) (unwrap_or (phase_moves sheet phase) sheet.base)

abbrev pub moves : Sheet → Ctx → ℕ → List ℕ
moves sheet ctx seat = option_map_or (λ rows. option_map_or (moves_at sheet ctx.phase) (place_of rows seat) []) ctx.active
    (if seat == ctx.current then moves_at sheet ctx.phase None else [])
