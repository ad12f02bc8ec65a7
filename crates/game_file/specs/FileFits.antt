-- The bounds that what a file says keeps, on which later steps rest.
use Rattle.std.specs.Prelude.{◌≡◌, ◌≤◌, ℕ, true, List, length, All}
use Rattle.std.specs.Char.{is_ascii_alphanumeric}
use Rattle.game_sheet.specs.SheetRules.{is_game_letter, is_name}
use Rattle.game_file.specs.declared.actives.SpecMember.{SpecMember}
use Rattle.game_file.specs.declared.constants.Constant.{Constant}
use Rattle.game_file.specs.declared.constants.Constant.TheVariants.{Number, Numbers, Texts}
use Rattle.game_file.specs.declared.constants.ConstantMember.{ConstantMember}
use Rattle.game_file.specs.declared.file.FileFlow.{FileFlow}
use Rattle.game_file.specs.declared.file.FileHead.{FileHead}
use Rattle.game_file.specs.declared.file.FileNames.{FileNames}
use Rattle.game_file.specs.declared.file.FileSlots.{FileSlots}
use Rattle.game_file.specs.declared.file.FlowTables.{FlowTables}
use Rattle.game_file.specs.declared.file.GameFile.{GameFile}
use Rattle.game_file.specs.declared.head.Seats.{Seats}
use Rattle.game_file.specs.declared.moves.MoveMember.{MoveMember}
use Rattle.game_file.specs.declared.phases.PhaseMember.{PhaseMember}
use Rattle.game_file.specs.declared.phases.StageMember.{StageMember}

-- 1 to 16 seats, the least count not above the greatest
pub record SeatsFit (seats : Seats) : Type 0 where
  pub least : 1 ≤ seats.least
  pub in_order : seats.least ≤ seats.most
  pub most : seats.most ≤ 16

pub record HeadFits (head : FileHead) : Type 0 where
  pub game : is_name is_game_letter head.game ≡ true
  pub seats : SeatsFit head.seats

-- a row of constants has 1 to 1,024 items
pub record RowFits {Item : Type 0} (items : List Item) : Type 0 where
  pub least : 1 ≤ length items
  pub most : length items ≤ 1024

abbrev pub ConstantFits : Constant → Type 0
ConstantFits (Number number) = Unit {0}
ConstantFits (Numbers numbers) = RowFits numbers
ConstantFits (Texts texts) = RowFits texts

-- at most 64 slots of each part
pub record SlotsFit (slots : FileSlots) : Type 0 where
  pub common : length slots.common ≤ 64
  pub players : length slots.players ≤ 64
  pub secret : length slots.secret ≤ 64
  pub work : length slots.work ≤ 64

pub record NamesFit (names : FileNames) : Type 0 where
  pub constants : All (λ (row : ConstantMember). ConstantFits row.value) names.constants
  pub slots : SlotsFit names.slots

-- the name of a move, a phase, a stage or a spec
abbrev pub IsRowName : List ℕ → Type 0
IsRowName name = is_name is_ascii_alphanumeric name ≡ true

pub record MoveFits (row : MoveMember) : Type 0 where
  pub name : IsRowName row.title.name
  pub args : length row.args ≤ 8

-- 1 to 64 moves
pub record MovesFit (moves : List MoveMember) : Type 0 where
  pub least : 1 ≤ length moves
  pub most : length moves ≤ 64
  pub each : All MoveFits moves

-- at most 16 phases, stages and specs
pub record TablesFit (tables : FlowTables) : Type 0 where
  pub phases : length tables.phases ≤ 16
  pub stages : length tables.stages ≤ 16
  pub specs : length tables.specs ≤ 16
  pub each_phase : All (λ (row : PhaseMember). IsRowName row.title.name) tables.phases
  pub each_stage : All (λ (row : StageMember). IsRowName row.title.name) tables.stages
  pub each_spec : All (λ (row : SpecMember). IsRowName row.title.name) tables.specs

pub record FlowFits (flow : FileFlow) : Type 0 where
  pub moves : MovesFit flow.moves
  pub tables : TablesFit flow.tables

pub record FileFits (file : GameFile) : Type 0 where
  pub head : HeadFits file.head
  pub names : NamesFit file.names
  pub flow : FlowFits file.flow
