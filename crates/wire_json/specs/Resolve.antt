-- The action that is asked for, its names looked up in a sheet; none where the sheet has no such name.
use Rattle.std.specs.Prelude.{Option, Some, None, option_map, Bool, false, slice_get}
use Rattle.game_sheet.specs.declared.act.Act.{Act}
use Rattle.game_sheet.specs.declared.act.Act.TheVariants.{Move, Event, Undo, Redo}
use Rattle.game_sheet.specs.declared.act.Event.{Event as Happening}
use Rattle.game_sheet.specs.declared.act.Event.TheVariants.{EndTurn, EndPhase, SetPhase, EndStage, SetStage, EndGame}
use Rattle.game_sheet.specs.declared.act.EventKind.{EventKind}
use Rattle.game_sheet.specs.declared.act.EventKind.TheVariants as kind
use Rattle.game_sheet.specs.declared.act.Outcome.TheVariants.{Ended}
use Rattle.game_sheet.specs.declared.sheet.Sheet.{Sheet}
use Rattle.game_sheet.specs.SheetNames.{move_of, phase_of, stage_of}
use Rattle.wire_json.specs.declared.asked.Asked.{Asked}
use Rattle.wire_json.specs.declared.asked.Asked.TheVariants as asked
use Rattle.wire_json.specs.declared.asked.AskedTo.{AskedTo}
use Rattle.wire_json.specs.declared.asked.AskedTo.TheVariants as to
use Rattle.std.specs.Option.{option_map_or}

-- the event of a kind that is aimed at this; none where the sheet has no such phase or stage
abbrev pub event_of : Sheet → EventKind → AskedTo → Option Happening
event_of sheet kind.EndTurn to.Nothing = Some (EndTurn None)
event_of sheet kind.EndTurn (to.Seat seat) = Some (EndTurn (Some seat))
event_of sheet kind.EndPhase to.Nothing = Some EndPhase
event_of sheet kind.SetPhase (to.Name name) = option_map SetPhase (phase_of sheet name)
event_of sheet kind.EndStage to.Nothing = Some EndStage
event_of sheet kind.SetStage (to.Name name) = option_map SetStage (stage_of sheet name)
event_of sheet kind.EndGame to.Nothing = Some (EndGame Ended)
event_of sheet kind to = None

abbrev pub act_of : Sheet → Asked → Option Act
act_of sheet (asked.Move name args) = option_map (λ id. Move id args) (move_of sheet name)
act_of sheet (asked.Event kind to) = option_map Event (event_of sheet kind to)
act_of sheet asked.Undo = Some Undo
act_of sheet asked.Redo = Some Redo

-- whether the action is taken on any state number
abbrev pub ignores_number : Sheet → Option Act → Bool
ignores_number sheet (Some (Move id args)) = option_map_or (λ row. row.ignore_stale) (slice_get sheet.moves id) false
ignores_number sheet other = false
