-- What happens at the beginning, in turns and phases and at the end of a match, and how it ends.
use Rattle.std.specs.Prelude.{ℕ, Bool, false, if◌then◌else◌, List, [], ◌∷◌, slice_get, Option, Some, None, option_and_then, option_map, unwrap_or}
use Rattle.std.specs.List.{filter_map}
use Rattle.std.specs.Option.{option_map_or}
use Rattle.game_code.specs.Meaning.{value_of}
use Rattle.game_code.specs.Runs.{performed}
use Rattle.game_code.specs.Setting.{Setting}
use Rattle.game_code.specs.Wishes.{seat_in}
use Rattle.game_code.specs.declared.expression.Expression.{Expression}
use Rattle.game_code.specs.declared.statement.Piece.{Piece}
use Rattle.game_sheet.specs.declared.act.Outcome.{Outcome}
use Rattle.game_sheet.specs.declared.act.Outcome.TheVariants.{Winner, Draw, Ended}
use Rattle.game_sheet.specs.declared.args.Arg.{Arg}
use Rattle.game_sheet.specs.declared.ctx.Ctx.{Ctx}
use Rattle.game_slots.specs.Tables.{started}
use Rattle.game_slots.specs.declared.table.Table.{Table}
use Rattle.game_trait.specs.Deed.{Deed, Done, Lack}
use Rattle.slot_values.specs.Values.{is_true}
use Rattle.described_game.specs.Moves.{setting_at}
use Rattle.described_game.specs.declared.parts.EndCode.{EndCode}
use Rattle.described_game.specs.declared.parts.EndKind.{EndKind}
use Rattle.described_game.specs.declared.parts.EndKind.TheVariants.{Winner as SeatWins, Draw as NobodyWins, Ended as IsOver}
use Rattle.described_game.specs.declared.parts.GameParts.{GameParts}
use Rattle.described_game.specs.declared.parts.PhaseCode.{PhaseCode}
use Rattle.described_game.specs.declared.parts.TurnCode.{TurnCode}

-- ---- the beginning

-- the context in which the first state is made: there are seats, and nothing has happened
abbrev pub opening_context : ℕ → Ctx
opening_context seats = record { seats = seats; turn = 0; current = 0; order = []; pos = 0; phase = None; active = None; moves = 0; over = None }

-- each slot as it starts, and then what `setup` does
abbrev pub opened : GameParts → ℕ → List ℕ → Deed Table Lack
opened parts seats words = performed parts.setup (setting_at parts (opening_context seats) None []) (started parts.layout.rows seats) words

-- ---- hooks

abbrev pub phase_code : GameParts → Option ℕ → Option PhaseCode
phase_code parts phase = option_and_then (λ phase. slice_get parts.phases phase) phase

-- a phase with turns of its own has these alone
abbrev pub turn_in : TurnCode → Option PhaseCode → TurnCode
turn_in otherwise phase = option_map_or (λ (code : PhaseCode). unwrap_or code.turn otherwise) phase otherwise

-- what happens in the turns of a context
abbrev pub turn_code : GameParts → Ctx → TurnCode
turn_code parts ctx = turn_in parts.turn (phase_code parts ctx.phase)

abbrev pub hooked : GameParts → Piece → Option ℕ → Table → Ctx → List ℕ → Deed Table Lack
hooked parts piece seat table ctx words = performed piece (setting_at parts ctx seat []) table words

abbrev pub phase_begun : GameParts → Table → Ctx → ℕ → List ℕ → Deed Table Lack
phase_begun parts table ctx phase words = option_map_or (λ (code : PhaseCode). hooked parts code.on_begin None table ctx words) (slice_get parts.phases phase) (Done table words [])

abbrev pub phase_ended : GameParts → Table → Ctx → ℕ → List ℕ → Deed Table Lack
phase_ended parts table ctx phase words = option_map_or (λ (code : PhaseCode). hooked parts code.on_end None table ctx words) (slice_get parts.phases phase) (Done table words [])

-- ---- ends

-- a condition holds, where there is one
abbrev pub ends_by : Option Expression → Setting → Table → Bool
ends_by test s table = option_map_or (λ test. is_true (value_of test s table [] [])) test false

abbrev pub turn_over : GameParts → Table → Ctx → Bool
turn_over parts table ctx = ends_by (turn_code parts ctx).end_if (setting_at parts ctx None []) table

abbrev pub phase_over : GameParts → Table → Ctx → Bool
phase_over parts table ctx = option_map_or (λ (code : PhaseCode). ends_by code.end_if (setting_at parts ctx None []) table) (phase_code parts ctx.phase) false

-- how a value ends a match of so many seats, if it does
abbrev pub end_by : EndKind → ℕ → Option Arg → Option Outcome
end_by SeatWins seats value = option_map Winner (seat_in seats value)
end_by NobodyWins seats value = if is_true value then Some Draw else None
end_by IsOver seats value = if is_true value then Some Ended else None

abbrev pub either_end : Option Outcome → Option Outcome → Option Outcome
either_end None other = other
either_end (Some outcome) other = Some outcome

-- the first that ends the match counts
abbrev pub first_end : List EndCode → Setting → Table → Option Outcome
first_end [] s table = None
first_end (code ∷ codes) s table = either_end (end_by code.kind s.context.seats (value_of code.value s table [] [])) (first_end codes s table)

abbrev pub match_over : GameParts → Table → Ctx → Option Outcome
match_over parts table ctx = first_end parts.ends (setting_at parts ctx None []) table

-- ---- the play order

-- those items that are seats of the match
abbrev pub seats_among : ℕ → List (Option Arg) → List ℕ
seats_among seats items = filter_map (seat_in seats) items

-- the seats of the slot that the turns of a context name. Where there is none, the flow takes all seats
abbrev pub seats_ordered : GameParts → Table → Ctx → List ℕ
seats_ordered parts table ctx = option_map_or (seats_among ctx.seats) (option_and_then (λ slot. slice_get table.common slot) (turn_code parts ctx).order) []
