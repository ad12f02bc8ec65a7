-- What game code queues names rows of the game's sheet alone, where a move that is played is one of the sheet's.
use Rattle.std.specs.Prelude.{ℕ, ◌<◌, List, [], ◌∷◌, length}
use Rattle.game_sheet.specs.declared.act.Event.{Event}
use Rattle.game_sheet.specs.declared.args.Arg.{Arg}
use Rattle.game_sheet.specs.declared.ctx.Ctx.{Ctx}
use Rattle.game_sheet.specs.declared.sheet.Sheet.{Sheet}
use Rattle.game_trait.specs.Deed.{Deed, Done, GaveUp}
use Rattle.game_trait.specs.InSheet.{EventInSheet}
use Rattle.game_trait.specs.Rules.{Rules}

abbrev pub AllInSheet : Sheet → List Event → Type 0
AllInSheet sheet [] = Unit {0}
AllInSheet sheet (event ∷ events) = EventInSheet sheet event × AllInSheet sheet events

abbrev pub QueuesInSheet : {A E : Type 0} → Sheet → Deed A E → Type 0
QueuesInSheet sheet (Done value left queued) = AllInSheet sheet queued
QueuesInSheet sheet (GaveUp why) = Unit {0}

pub record KeepsToSheet {G : Type 0} (rules : Rules G) : Type 0 where
  pub play : (g : G) (ctx : Ctx) (seat id : ℕ) (args : List Arg) (words : List ℕ) → id < length rules.sheet.moves → QueuesInSheet rules.sheet (rules.play g ctx seat id args words)
  pub on_move : (g : G) (ctx : Ctx) (seat : ℕ) (words : List ℕ) → QueuesInSheet rules.sheet (rules.on_move g ctx seat words)
  pub turn_begin : (g : G) (ctx : Ctx) (words : List ℕ) → QueuesInSheet rules.sheet (rules.turn_begin g ctx words)
  pub turn_end : (g : G) (ctx : Ctx) (words : List ℕ) → QueuesInSheet rules.sheet (rules.turn_end g ctx words)
  pub phase_begin : (g : G) (ctx : Ctx) (phase : ℕ) (words : List ℕ) → QueuesInSheet rules.sheet (rules.phase_begin g ctx phase words)
  pub phase_end : (g : G) (ctx : Ctx) (phase : ℕ) (words : List ℕ) → QueuesInSheet rules.sheet (rules.phase_end g ctx phase words)
  pub game_end : (g : G) (ctx : Ctx) (words : List ℕ) → QueuesInSheet rules.sheet (rules.game_end g ctx words)
