-- An act is in a sheet where each place that it names is a row of the sheet's tables, and a seat that wins can be one of a match.
use Rattle.std.specs.Prelude.{◌<◌, length}
use Rattle.game_sheet.specs.declared.act.Act.{Act}
use Rattle.game_sheet.specs.declared.act.Act.TheVariants.{Move, Event as Asks, Undo, Redo}
use Rattle.game_sheet.specs.declared.act.Event.{Event}
use Rattle.game_sheet.specs.declared.act.Event.TheVariants.{EndTurn, EndPhase, SetPhase, EndStage, SetStage, SetActive, EndGame}
use Rattle.game_sheet.specs.declared.act.Outcome.{Outcome}
use Rattle.game_sheet.specs.declared.act.Outcome.TheVariants.{Winner, Draw, Ended}
use Rattle.game_sheet.specs.declared.sheet.Sheet.{Sheet}

-- a match has at most 16 seats
abbrev pub OutcomeFits : Outcome → Type 0
OutcomeFits (Winner seat) = seat < 16
OutcomeFits Draw = Unit {0}
OutcomeFits Ended = Unit {0}

abbrev pub EventInSheet : Sheet → Event → Type 0
EventInSheet sheet (EndTurn to) = Unit {0}
EventInSheet sheet EndPhase = Unit {0}
EventInSheet sheet (SetPhase to) = to < length sheet.phases
EventInSheet sheet EndStage = Unit {0}
EventInSheet sheet (SetStage to) = to < length sheet.stages
EventInSheet sheet (SetActive spec) = spec < length sheet.specs
EventInSheet sheet (EndGame outcome) = OutcomeFits outcome

abbrev pub ActInSheet : Sheet → Act → Type 0
ActInSheet sheet (Move id args) = id < length sheet.moves
ActInSheet sheet (Asks event) = EventInSheet sheet event
ActInSheet sheet Undo = Unit {0}
ActInSheet sheet Redo = Unit {0}
