-- What may stand in a plain snapshot: a context and entries whose ids are on the sheet, whose numbers are of their types, whose
-- rows of active players rise by seat, and whose actions are shown as they are or hidden whole.
use Rattle.std.specs.Prelude.{◌≡◌, ◌<◌, ◌≤◌, ◌+◌, ℕ, List, [], ◌∷◌, length, Bool, true, false, Option, Some, None}
use Rattle.std.specs.List.{AllByRecursion}
use Rattle.game_sheet.specs.declared.act.Act.{Act}
use Rattle.game_sheet.specs.declared.act.Act.TheVariants.{Move, Event, Undo, Redo}
use Rattle.game_sheet.specs.declared.act.Event as event
use Rattle.game_sheet.specs.declared.act.Event.TheVariants.{EndTurn, EndPhase, SetPhase, EndStage, SetStage, SetActive, EndGame}
use Rattle.game_sheet.specs.declared.act.Outcome.{Outcome}
use Rattle.game_sheet.specs.declared.act.Outcome.TheVariants.{Winner, Draw, Ended}
use Rattle.game_sheet.specs.declared.ctx.Ctx.{Ctx}
use Rattle.game_sheet.specs.declared.sheet.Sheet.{Sheet}
use Rattle.move_log.specs.declared.entry.Entry.{Entry}
use Rattle.sheet_json.specs.Arguments.{AreArguments}
use Rattle.sheet_json.specs.Seats.{IsWithin}

-- the id, where there is one, is a place of its table
abbrev pub IsIn : ℕ → Option ℕ → Type 0
IsIn count None = Unit {0}
IsIn count (Some id) = id < count

-- the rows rise by seat from this seat on, and their stages are on the sheet
abbrev pub RowsFit : Sheet → ℕ → List (ℕ × Option ℕ) → Type 0
RowsFit sheet low [] = Unit {0}
RowsFit sheet low (row ∷ rows) = (low ≤ row.0) × (row.0 ≤ 255) × IsIn (length sheet.stages) row.1 × RowsFit sheet (row.0 + 1) rows

abbrev pub ActiveFits : Sheet → Option (List (ℕ × Option ℕ)) → Type 0
ActiveFits sheet None = Unit {0}
ActiveFits sheet (Some rows) = RowsFit sheet 0 rows

abbrev pub OverFits : Option Outcome → Type 0
OverFits None = Unit {0}
OverFits (Some (Winner seat)) = seat ≤ 255
OverFits (Some Draw) = Unit {0}
OverFits (Some Ended) = Unit {0}

pub record IsPlainCtx (sheet : Sheet) (ctx : Ctx) : Type 0 where
  pub seats : ctx.seats ≤ 255
  pub turn : ctx.turn ≤ 4294967295
  pub current : ctx.current ≤ 255
  pub order : AllByRecursion (λ seat. seat ≤ 255) ctx.order
  pub pos : ctx.pos ≤ 255
  pub phase : IsIn (length sheet.phases) ctx.phase
  pub active : ActiveFits sheet ctx.active
  pub moves : ctx.moves ≤ 4294967295
  pub over : OverFits ctx.over

-- an event that a player may ask for, by its names
abbrev pub EventFits : Sheet → event.Event → Type 0
EventFits sheet (EndTurn to) = IsWithin 255 to
EventFits sheet EndPhase = Unit {0}
EventFits sheet (SetPhase to) = to < length sheet.phases
EventFits sheet EndStage = Unit {0}
EventFits sheet (SetStage to) = to < length sheet.stages
EventFits sheet (SetActive spec) = ⊥
EventFits sheet (EndGame outcome) = outcome ≡ Ended

-- only a move is hidden, and then it has no arguments
abbrev pub ActFits : Sheet → Bool → Act → Type 0
ActFits sheet true (Move id args) = (id < length sheet.moves) × (args ≡ [])
ActFits sheet false (Move id args) = (id < length sheet.moves) × AreArguments args
ActFits sheet true (Event e) = ⊥
ActFits sheet false (Event e) = EventFits sheet e
ActFits sheet true Undo = ⊥
ActFits sheet false Undo = Unit {0}
ActFits sheet true Redo = ⊥
ActFits sheet false Redo = Unit {0}

pub record IsPlainEntry (sheet : Sheet) (entry : Entry) : Type 0 where
  pub seat : entry.seat ≤ 255
  pub act : ActFits sheet entry.hidden entry.act
  pub number : entry.number ≤ 4294967295
  pub turn : entry.turn ≤ 4294967295
  pub phase : IsIn (length sheet.phases) entry.phase
  pub words : entry.words ≡ 0
