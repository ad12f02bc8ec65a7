-- The public rules of an action, which rest on the sheet, the context, the state number, the seat and the line alone, in the
-- order in which they are tested.
use Rattle.std.specs.Prelude.{ℕ, ◌==◌, Bool, true, false, not, ◌&&◌, is_some, Option, Some, None, List, [], ◌∷◌, bytes_eq}
use Rattle.std.specs.List.{list_any}
use Rattle.game_sheet.specs.declared.act.Act.{Act}
use Rattle.game_sheet.specs.declared.act.Act.TheVariants.{Move, Event, Undo, Redo}
use Rattle.game_sheet.specs.declared.act.EventKind.{EventKind}
use Rattle.game_sheet.specs.EventNames.{event_text}
use Rattle.game_sheet.specs.declared.ctx.Ctx.{Ctx}
use Rattle.game_sheet.specs.declared.sheet.Sheet.{Sheet}
use Rattle.wire_json.specs.declared.asked.Asked.{Asked}
use Rattle.wire_json.specs.declared.asked.Asked.TheVariants as asked
use Rattle.wire_json.specs.declared.reason.Reason.{Reason}
use Rattle.wire_json.specs.declared.reason.Reason.TheVariants.{NoMatch, Unauthorized, GameOver, MatchFull, CannotUndoNow, NotActive, UnknownMove, WrongNumber}
use Rattle.wire_json.specs.Resolve.{act_of, ignores_number}
use Rattle.stage_map.specs.Moves.{may, moves}
use Rattle.game_sheet.specs.Viewer.{Viewer}
use Rattle.std.specs.Option.{option_map_or}
use Rattle.std.specs.Map.{lookup}

-- whether a key is that of the viewer's seat; a spectator has none
abbrev pub has_key : Viewer → List ℕ → Bool
has_key viewer key = option_map_or (λ claim. bytes_eq claim.1 key) viewer false

-- the greatest state number
abbrev pub most_actions : ℕ
most_actions = 4096

-- the reason of the first rule that is broken
abbrev pub first_broken : List (Bool × Reason) → Option Reason
first_broken rules = lookup (λ broken. broken) rules

abbrev pub is_undo_or_redo : Asked → Bool
is_undo_or_redo asked.Undo = true
is_undo_or_redo asked.Redo = true
is_undo_or_redo other = false

-- whether the seat is the only one that may act
abbrev pub is_alone_in : List (ℕ × Option ℕ) → ℕ → Bool
is_alone_in (row ∷ []) seat = row.0 == seat
is_alone_in rows seat = false

abbrev pub is_alone : Ctx → ℕ → Bool
is_alone ctx seat = option_map_or (λ rows. is_alone_in rows seat) ctx.active (seat == ctx.current)

-- two kinds of events are the same where they have the same name
abbrev pub is_kind : EventKind → EventKind → Bool
is_kind kind other = bytes_eq (event_text kind) (event_text other)

-- whether the sheet allows players the event that is asked for
abbrev pub is_allowed : Sheet → Asked → Bool
is_allowed sheet (asked.Event kind to) = list_any (is_kind kind) sheet.events
is_allowed sheet other = false

-- whether the seat has the move that is asked for, or the players the event
abbrev pub has_act : Sheet → Ctx → ℕ → Asked → Option Act → Bool
has_act sheet ctx seat a None = false
has_act sheet ctx seat a (Some (Move id args)) = list_any (λ m. m == id) (moves sheet ctx seat)
has_act sheet ctx seat a (Some (Event event)) = is_allowed sheet a
has_act sheet ctx seat a (Some Undo) = true
has_act sheet ctx seat a (Some Redo) = true

-- the rules that only a seat's session can meet
abbrev pub seat_rules : Sheet → Ctx → ℕ → ℕ → Asked → ℕ → List (Bool × Reason)
seat_rules sheet ctx number seat a at = (is_some ctx.over, GameOver)
    ∷ (number == most_actions, MatchFull)
    ∷ (is_undo_or_redo a && not (is_alone ctx seat), CannotUndoNow)
    ∷ (not (may ctx seat), NotActive)
    ∷ (not (has_act sheet ctx seat a (act_of sheet a)), UnknownMove)
    ∷ (not (at == number) && not (ignores_number sheet (act_of sheet a)), WrongNumber)
    ∷ []

-- the first public rule that an action breaks: `same` says that the line names the match that stands, `fits` that its key is the
-- seat's, and `at` is the line's number
unfoldable pub public : Sheet → Ctx → ℕ → Bool → Option ℕ → Bool → Asked → ℕ → Option Reason
public sheet ctx number same viewer fits a at = first_broken ((not same, NoMatch) ∷
    option_map_or (λ seat. (not fits, Unauthorized) ∷ seat_rules sheet ctx number seat a at) viewer ((true, Unauthorized) ∷ []))
