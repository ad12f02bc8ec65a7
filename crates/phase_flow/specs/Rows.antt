-- The rows of a sheet that are in force, and the play order that a row asks for.
use Rattle.std.specs.Prelude.{ℕ, List, Option, position, slice_get, option_and_then, unwrap_or}
use Rattle.game_sheet.specs.declared.ctx.Ctx.{Ctx}
use Rattle.game_sheet.specs.declared.sheet.Order.{Order}
use Rattle.game_sheet.specs.declared.sheet.Order.TheVariants.{Custom, CustomFrom}
use Rattle.game_sheet.specs.declared.sheet.PhaseRow.{PhaseRow}
use Rattle.game_sheet.specs.declared.sheet.Sheet.{Sheet}
use Rattle.game_sheet.specs.declared.sheet.TurnRow.{TurnRow}
use Rattle.turn_order.specs.PlayOrder.{all_seats, list_or_all}
use Rattle.std.specs.Option.{option_map_or}

abbrev pub turn_of_phase : TurnRow → Option PhaseRow → TurnRow
turn_of_phase otherwise row = option_map_or (λ row. unwrap_or row.turn otherwise) row otherwise

-- the turn row in force: the phase's own, else the sheet's
abbrev pub turn_row : Sheet → Ctx → TurnRow
turn_row sheet ctx = turn_of_phase sheet.turn (option_and_then (slice_get sheet.phases) ctx.phase)

-- the phase that follows a phase, if one does
abbrev pub phase_after : Sheet → ℕ → Option ℕ
phase_after sheet phase = option_and_then (λ (row : PhaseRow). row.next) (slice_get sheet.phases phase)

-- the phase in which a match begins, if there is one
abbrev pub start_phase : Sheet → Option ℕ
start_phase sheet = position (λ (row : PhaseRow). row.start) sheet.phases

-- the play order of a match with so many seats, where `own` is the game's own list
abbrev pub order_list : Order → ℕ → List ℕ → List ℕ
order_list (Custom listed) seats own = listed
order_list CustomFrom seats own = list_or_all seats own
order_list other seats own = all_seats seats
