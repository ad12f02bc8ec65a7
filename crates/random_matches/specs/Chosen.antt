-- What a random match does at a step: a seat that may act makes a move that the game offers it there, or ends its turn.
use Rattle.std.specs.Prelude.{◌≡◌, ◌<◌, ℕ, Some, None, true, List, length, slice_get}
use Rattle.game_sheet.specs.declared.act.Act.{Act}
use Rattle.game_sheet.specs.declared.act.Act.TheVariants.{Move, Event as Asks, Undo, Redo}
use Rattle.game_sheet.specs.declared.act.Event.TheVariants.{EndTurn, EndPhase, SetPhase, EndStage, SetStage, SetActive, EndGame}
use Rattle.game_sheet.specs.declared.args.Arg.{Arg}
use Rattle.game_sheet.specs.declared.ctx.Ctx.{Ctx}
use Rattle.game_trait.specs.Offers.{may_be_offered}
use Rattle.game_trait.specs.Rules.{Rules}
use Rattle.reducer.specs.Standing.{Standing}
use Rattle.reducer.specs.Steps.{state_after}
use Rattle.stage_map.specs.Moves.{may}

-- the move stands among what the game offers the seat
pub record IsOffered {G : Type 0} (rules : Rules G) (g : G) (ctx : Ctx) (seat id : ℕ) (args : List Arg) : Type 0 where
  pub may_act : may ctx seat ≡ true
  pub place : ℕ
  pub stands : slice_get (rules.options g ctx seat) place ≡ Some (id, args)
  pub known : id < length rules.sheet.moves

-- an offered move, or the end of a turn of a seat that may act
abbrev pub IsChosen : {G : Type 0} → Rules G → G → Ctx → ℕ → Act → Type 0
IsChosen rules g ctx seat (Move id args) = IsOffered rules g ctx seat id args
IsChosen rules g ctx seat (Asks (EndTurn to)) = (may ctx seat ≡ true) × (to ≡ None)
IsChosen rules g ctx seat (Asks EndPhase) = ⊥
IsChosen rules g ctx seat (Asks (SetPhase to)) = ⊥
IsChosen rules g ctx seat (Asks EndStage) = ⊥
IsChosen rules g ctx seat (Asks (SetStage to)) = ⊥
IsChosen rules g ctx seat (Asks (SetActive spec)) = ⊥
IsChosen rules g ctx seat (Asks (EndGame outcome)) = ⊥
IsChosen rules g ctx seat Undo = ⊥
IsChosen rules g ctx seat Redo = ⊥

-- a state is what a chosen action leads to
pub record IsNext {G : Type 0} (rules : Rules G) (before after : Standing G) : Type 0 where
  pub seat : ℕ
  pub act : Act
  pub chosen : IsChosen rules before.table.g before.table.ctx seat act
  pub leads : after ≡ state_after rules before (record { seat = seat; act = act })
