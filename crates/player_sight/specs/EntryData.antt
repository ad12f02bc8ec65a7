-- The JSON values of an action, of an entry of the log, and of a log. Hidden arguments are null. A player's endGame has no outcome
-- of its own; what a player can't ask for, setting the active players, shows as an event of that name.
use Rattle.std.specs.Prelude.{ℕ, List, map, Bool, codes, if◌then◌else◌}
use Rattle.serde_json.specs.Data.{Data, null, string, array, object, member, no_members}
use Rattle.serde_json.specs.View.{items_of}
use Rattle.game_sheet.specs.declared.act.Act.{Act}
use Rattle.game_sheet.specs.declared.act.Act.TheVariants.{Move, Event, Undo, Redo}
use Rattle.game_sheet.specs.declared.act.Event as event
use Rattle.game_sheet.specs.declared.act.Event.TheVariants.{EndTurn, EndPhase, SetPhase, EndStage, SetStage, SetActive, EndGame}
use Rattle.game_sheet.specs.declared.sheet.Sheet.{Sheet}
use Rattle.move_log.specs.declared.entry.Entry.{Entry}
use Rattle.game_sheet.specs.EventNames.{event_text}
use Rattle.game_sheet.specs.declared.act.EventKind.TheVariants as asks
use Rattle.sheet_json.specs.Arguments.{arguments}
use Rattle.sheet_json.specs.Seats.{natural, natural_or_null}
use Rattle.player_sight.specs.Parts.{move_name, phase_name, stage_name, phase_or_null}

-- an event's name
abbrev pub event_name : event.Event → List ℕ
event_name (EndTurn to) = event_text asks.EndTurn
event_name EndPhase = event_text asks.EndPhase
event_name (SetPhase to) = event_text asks.SetPhase
event_name EndStage = event_text asks.EndStage
event_name (SetStage to) = event_text asks.SetStage
event_name (SetActive spec) = codes "setActive"
event_name (EndGame outcome) = event_text asks.EndGame

-- what it goes to
abbrev pub event_aim : Sheet → event.Event → Data
event_aim sheet (EndTurn to) = natural_or_null to
event_aim sheet (SetPhase to) = phase_name sheet to
event_aim sheet (SetStage to) = stage_name sheet to
event_aim sheet other = null

abbrev pub event_data : Sheet → event.Event → Data
event_data sheet e = object
    (member (codes "event") (string (event_name e)) (member (codes "kind") (string (codes "event")) (member (codes "to") (event_aim sheet e) no_members)))

abbrev pub move_data : Data → Data → Data
move_data name args = object (member (codes "args") args (member (codes "kind") (string (codes "move")) (member (codes "move") name no_members)))

abbrev pub act_data : Sheet → Bool → Act → Data
act_data sheet hidden (Move id args) = move_data (move_name sheet id) (if hidden then null else array (arguments args))
act_data sheet hidden (Event e) = event_data sheet e
act_data sheet hidden Undo = object (member (codes "kind") (string (codes "undo")) no_members)
act_data sheet hidden Redo = object (member (codes "kind") (string (codes "redo")) no_members)

abbrev pub entry_data : Sheet → Entry → Data
entry_data sheet e = object
    (member (codes "act") (act_data sheet e.hidden e.act)
    (member (codes "number") (natural e.number)
    (member (codes "phase") (phase_or_null sheet e.phase)
    (member (codes "seat") (natural e.seat)
    (member (codes "turn") (natural e.turn) no_members)))))

abbrev pub log_data : Sheet → List Entry → Data
log_data sheet log = array (items_of (map (entry_data sheet) log))
