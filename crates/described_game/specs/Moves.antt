-- What code of a described game is given, and what its moves do.
use Rattle.std.specs.Prelude.{◌&&◌, ℕ, Bool, if◌then◌else◌, List, [], slice_get, Option, Some}
use Rattle.std.specs.Option.{option_map_or}
use Rattle.game_code.specs.Meaning.{value_of}
use Rattle.game_code.specs.Runs.{performed}
use Rattle.game_code.specs.Setting.{Setting}
use Rattle.game_sheet.specs.declared.args.Arg.{Arg}
use Rattle.game_sheet.specs.declared.ctx.Ctx.{Ctx}
use Rattle.game_slots.specs.declared.table.Table.{Table}
use Rattle.game_trait.specs.Deed.{Barred, Deed, Done, GaveUp, Invalid, Lack, Lacks}
use Rattle.game_trait.specs.declared.halt.Halt.{Halt}
use Rattle.game_trait.specs.declared.halt.Halt.TheVariants.{Spent as HaltSpent, Crowded as HaltCrowded, NoMemory as HaltNoMemory}
use Rattle.game_trait.specs.declared.halt.HookHalt.{HookHalt}
use Rattle.game_trait.specs.declared.halt.HookHalt.TheVariants.{Spent, Crowded, NoMemory}
use Rattle.slot_values.specs.Values.{is_true}
use Rattle.described_game.specs.Arguments.{arguments_fit}
use Rattle.described_game.specs.declared.parts.GameParts.{GameParts}
use Rattle.described_game.specs.declared.parts.MoveCode.{MoveCode}

-- what code of a game is given, in a context, with a seat that moves and arguments
abbrev pub setting_at : GameParts → Ctx → Option ℕ → List Arg → Setting
setting_at parts ctx seat args = record { context = ctx; seat = seat; arguments = args; constants = parts.constants; rows = parts.layout.rows; work = [] }

-- a move is allowed: its arguments are right in number, kind and range, and its condition holds
abbrev pub allowed : MoveCode → Setting → Table → Bool
allowed code s table = arguments_fit s.context.seats code.arguments s.arguments && is_true (value_of code.when s table [] [])

-- what a move gives up for is what its code does
abbrev pub barred : Deed Table Lack → Deed Table Barred
barred (Done table left queued) = Done table left queued
barred (GaveUp why) = GaveUp (Lacks why)

abbrev pub halted : HookHalt → Halt
halted Spent = HaltSpent
halted Crowded = HaltCrowded
halted NoMemory = HaltNoMemory

-- a move that isn't allowed draws no word
abbrev pub made : MoveCode → Setting → Table → List ℕ → Deed Table Barred
made code s table words = if allowed code s table then barred (performed code.code s table words) else GaveUp Invalid

abbrev pub played : GameParts → Table → Ctx → ℕ → ℕ → List Arg → List ℕ → Deed Table Barred
played parts table ctx seat id args words = option_map_or (λ (code : MoveCode). made code (setting_at parts ctx (Some seat) args) table words) (slice_get parts.moves id) (GaveUp Invalid)

-- the game allows a move: it is done, or gives up for want of words or of room for events
abbrev pub IsValid : {A : Type 0} → Deed A Barred → Type 0
IsValid (Done value left queued) = Unit {0}
IsValid (GaveUp Invalid) = ⊥
IsValid (GaveUp (Lacks why)) = Unit {0}
