-- What is tested of the parts of a described game.
use Rattle.std.specs.Prelude.{◌≡◌, ◌==◌, ◌&&◌, ◌+◌, ◌*◌, ℕ, min, nat_le, nat_lt, Bool, true, if◌then◌else◌, List, [], ◌∷◌, length, Option, Some, None}
use Rattle.std.specs.List.{list_all}
use Rattle.std.specs.Option.{option_map_or}
use Rattle.code_laws.specs.Counts.{code_in_sheet, events_of}
use Rattle.code_laws.specs.Sight.{reads_own}
use Rattle.game_code.specs.declared.statement.Piece.{Piece}
use Rattle.game_sheet.specs.SheetRules.{broken}
use Rattle.game_sheet.specs.declared.sheet.Sheet.{Sheet}
use Rattle.game_slots.specs.Slots.{count_in, least_items, value_fits}
use Rattle.game_slots.specs.declared.rows.SlotRow.{SlotRow}
use Rattle.game_slots.specs.declared.rows.TableRows.{TableRows}
use Rattle.slot_json.specs.TableForms.{layout_fits}
use Rattle.slot_json.specs.TextBytes.{most_bytes, text_limit}
use Rattle.described_game.specs.Offers.{capped, group_width, rows_count, value_count}
use Rattle.described_game.specs.declared.faults.PartFault.{PartFault}
use Rattle.described_game.specs.declared.faults.PartFault.TheVariants.{Sheet as InSheet, Counts, Names, Seats, Text as LongText, Start, Setup, Code, Sight, Arguments}
use Rattle.described_game.specs.declared.parts.ArgumentGroup.{ArgumentGroup}
use Rattle.described_game.specs.declared.parts.ArgumentGroup.TheVariants.{One, Listed}
use Rattle.described_game.specs.declared.parts.GameParts.{GameParts}
use Rattle.described_game.specs.declared.parts.MoveCode.{MoveCode}
use Rattle.described_game.specs.declared.parts.PhaseCode.{PhaseCode}
use Rattle.described_game.specs.declared.parts.TurnCode.{TurnCode}

-- there is code for each move and each phase of the sheet
abbrev pub counts_fit : GameParts → Bool
counts_fit parts = length parts.moves == length parts.sheet.moves && length parts.phases == length parts.sheet.phases

-- states have entries for as many seats as a match may have
abbrev pub seats_fit : GameParts → Bool
seats_fit parts = parts.layout.rows.most_seats == parts.sheet.max_seats

-- a state's text is short
abbrev pub texts_fit : GameParts → Bool
texts_fit parts = nat_le (most_bytes parts.layout) text_limit

-- ---- how slots start

-- a slot fits as it starts, in matches of the least to the greatest number of seats
abbrev pub start_fits : ℕ → ℕ → SlotRow → Bool
start_fits least most row = value_fits row row.start && nat_le (least_items row) (count_in row.begin least) && nat_le (count_in row.begin most) row.most

abbrev pub slots_start : Sheet → List SlotRow → Bool
slots_start sheet rows = list_all (start_fits sheet.min_seats sheet.max_seats) rows

abbrev pub rows_start : Sheet → TableRows → Bool
rows_start sheet rows = slots_start sheet rows.common && slots_start sheet rows.players && slots_start sheet rows.secret

abbrev pub starts_fit : GameParts → Bool
starts_fit parts = rows_start parts.sheet parts.layout.rows

-- the first state is made without an event
abbrev pub is_quiet : GameParts → Bool
is_quiet parts = events_of parts.setup.code == 0

-- ---- code

-- a piece of code names rows of the sheet alone, and queues at most sixteen events
abbrev pub piece_fits : Sheet → Piece → Bool
piece_fits sheet piece = code_in_sheet sheet piece.code && nat_le (events_of piece.code) 16

abbrev pub turn_fits : Sheet → TurnCode → Bool
turn_fits sheet turn = piece_fits sheet turn.on_begin && piece_fits sheet turn.on_end && piece_fits sheet turn.on_move

abbrev pub phase_fits : Sheet → PhaseCode → Bool
phase_fits sheet phase = option_map_or (turn_fits sheet) phase.turn true && piece_fits sheet phase.on_begin && piece_fits sheet phase.on_end

abbrev pub move_fits : Sheet → MoveCode → Bool
move_fits sheet code = piece_fits sheet code.code

abbrev pub codes_fit : GameParts → Bool
codes_fit parts = list_all (move_fits parts.sheet) parts.moves && turn_fits parts.sheet parts.turn && list_all (phase_fits parts.sheet) parts.phases && piece_fits parts.sheet parts.on_end

-- ---- what is read for the seat that moves

abbrev pub group_sees_own : ArgumentGroup → Bool
group_sees_own (One row) = true
group_sees_own (Listed row) = reads_own row.length && reads_own row.item

-- whether a move is allowed and offered hangs on nothing but what the seat sees
abbrev pub move_sees_own : MoveCode → Bool
move_sees_own code = reads_own code.when && list_all group_sees_own code.arguments

abbrev pub moves_see_own : GameParts → Bool
moves_see_own parts = list_all move_sees_own parts.moves

-- ---- arguments

abbrev pub group_fits : ArgumentGroup → Bool
group_fits (One row) = true
group_fits (Listed row) = nat_lt (rows_count row.ranges) 2147483648

-- how many arguments there are in all groups
abbrev pub width_of : List ArgumentGroup → ℕ
width_of [] = 0
width_of (group ∷ groups) = capped (group_width group + width_of groups)

-- how many rows a group offers at most
abbrev pub group_most : ArgumentGroup → ℕ
group_most (One row) = value_count row
group_most (Listed row) = min row.most (rows_count row.ranges)

-- how many rows of arguments are offered at most
abbrev pub most_rows : List ArgumentGroup → ℕ
most_rows [] = 1
most_rows (group ∷ groups) = capped (group_most group * most_rows groups)

abbrev pub groups_fit : List ArgumentGroup → Bool
groups_fit groups = list_all group_fits groups && nat_le (width_of groups) 8 && nat_le (most_rows groups) 4096

abbrev pub arguments_small : MoveCode → Bool
arguments_small code = groups_fit code.arguments

abbrev pub offers_small : GameParts → Bool
offers_small parts = list_all arguments_small parts.moves

-- ---- all tests

pub record IsSound (parts : GameParts) : Type 0 where
  pub unbroken : broken parts.sheet ≡ 0
  pub counts : counts_fit parts ≡ true
  pub names : layout_fits parts.layout ≡ true
  pub seats : seats_fit parts ≡ true
  pub texts : texts_fit parts ≡ true
  pub starts : starts_fit parts ≡ true
  pub quiet : is_quiet parts ≡ true
  pub codes : codes_fit parts ≡ true
  pub sight : moves_see_own parts ≡ true
  pub small : offers_small parts ≡ true

-- ---- faults

abbrev pub either_fault : Option PartFault → Option PartFault → Option PartFault
either_fault None other = other
either_fault (Some fault) other = Some fault

abbrev pub fault_unless : Bool → PartFault → Option PartFault
fault_unless holds fault = if holds then None else Some fault

-- of the sheet, and whether the other parts go with it
abbrev pub sheet_fault : GameParts → Option PartFault
sheet_fault parts =
    either_fault (if broken parts.sheet == 0 then None else Some (InSheet (record { rule = broken parts.sheet })))
    (either_fault (fault_unless (counts_fit parts) Counts) (fault_unless (seats_fit parts) Seats))

-- of the slots
abbrev pub slot_fault : GameParts → Option PartFault
slot_fault parts = either_fault (fault_unless (layout_fits parts.layout) Names) (either_fault (fault_unless (texts_fit parts) LongText) (fault_unless (starts_fit parts) Start))

-- of code and arguments
abbrev pub code_fault : GameParts → Option PartFault
code_fault parts =
    either_fault (either_fault (fault_unless (is_quiet parts) Setup) (fault_unless (codes_fit parts) Code))
    (either_fault (fault_unless (moves_see_own parts) Sight) (fault_unless (offers_small parts) Arguments))

-- the fault of the first test that fails
abbrev pub first_fault : GameParts → Option PartFault
first_fault parts = either_fault (sheet_fault parts) (either_fault (slot_fault parts) (code_fault parts))
