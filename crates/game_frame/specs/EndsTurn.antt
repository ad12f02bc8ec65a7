-- A move after which the turn ends by itself.
use Rattle.std.specs.Prelude.{◌==◌, ◌&&◌, ◌||◌, ℕ, Bool, false, not, is_none, List, Option, Some, None, slice_get, unwrap_or}
use Rattle.std.specs.List.{list_any}
use Rattle.std.specs.Option.{option_map_or}
use Rattle.game_sheet.specs.declared.sheet.MoveRow.{MoveRow}
use Rattle.game_sheet.specs.declared.sheet.PhaseRow.{PhaseRow}
use Rattle.game_sheet.specs.declared.sheet.Sheet.{Sheet}
use Rattle.game_sheet.specs.declared.sheet.TurnRow.{TurnRow}

-- the move is there, and counts toward limits
abbrev pub counts : Sheet → ℕ → Bool
counts sheet id = option_map_or (λ (row : MoveRow). not row.no_limit) (slice_get sheet.moves id) false

abbrev pub is_one : Option ℕ → Bool
is_one None = false
is_one (Some most) = most == 1

-- a turn that ends after one move, and has no active players
abbrev pub has_one_move : TurnRow → Bool
has_one_move turn = is_one turn.max_moves && is_none turn.active

abbrev pub is_listed : List ℕ → ℕ → Bool
is_listed moves id = list_any (λ listed. listed == id) moves

abbrev pub has_first : List PhaseRow → Bool
has_first phases = list_any (λ (row : PhaseRow). row.start) phases

abbrev pub has_last : List PhaseRow → Bool
has_last phases = list_any (λ (row : PhaseRow). is_none row.next) phases

-- no phase is the first, or one has none behind it
abbrev pub may_be_outside : List PhaseRow → Bool
may_be_outside phases = not (has_first phases) || has_last phases

abbrev pub ends_outside : Sheet → ℕ → Bool
ends_outside sheet id = has_one_move sheet.turn && is_listed sheet.base id && may_be_outside sheet.phases

-- a phase without a turn of its own has the sheet's, and one without moves has those of the sheet
abbrev pub turn_in : Sheet → PhaseRow → TurnRow
turn_in sheet row = unwrap_or row.turn sheet.turn

abbrev pub moves_in : Sheet → PhaseRow → List ℕ
moves_in sheet row = unwrap_or row.moves sheet.base

abbrev pub ends_in_phase : Sheet → ℕ → Bool
ends_in_phase sheet id = list_any (λ (row : PhaseRow). has_one_move (turn_in sheet row) && is_listed (moves_in sheet row) id) sheet.phases

-- the move counts, and it is one of a phase, or of the sheet outside of phases, whose turn ends after one move
abbrev pub ends_turn : Sheet → ℕ → Bool
ends_turn sheet id = counts sheet id && (ends_outside sheet id || ends_in_phase sheet id)
