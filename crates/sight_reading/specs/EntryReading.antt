-- How the value of an entry is read back: each member in its form and no other, its names on the sheet.
use Rattle.std.specs.Prelude.{ℕ, List, [], ◌∷◌, true, false, codes, if◌then◌else◌, Option, Some, None, option_map, option_and_then}
use Rattle.std.specs.Result.{result_ok}
use Rattle.std.specs.Str.{bytes_eq}
use Rattle.serde_json.specs.Data.{Data}
use Rattle.serde_json.specs.Find.{get, as_array}
use Rattle.game_sheet.specs.declared.act.Act.{Act}
use Rattle.game_sheet.specs.declared.act.Act.TheVariants.{Move, Event, Undo, Redo}
use Rattle.game_sheet.specs.declared.act.Event as event
use Rattle.game_sheet.specs.declared.act.Event.TheVariants.{EndTurn, EndPhase, SetPhase, EndStage, SetStage, EndGame}
use Rattle.game_sheet.specs.declared.act.Outcome.TheVariants.{Ended}
use Rattle.game_sheet.specs.declared.sheet.Sheet.{Sheet}
use Rattle.move_log.specs.declared.entry.Entry.{Entry}
use Rattle.game_sheet.specs.EventNames.{kind_from}
use Rattle.game_sheet.specs.SheetNames.{move_of, phase_of, stage_of}
use Rattle.game_sheet.specs.declared.act.EventKind.{EventKind}
use Rattle.game_sheet.specs.declared.act.EventKind.TheVariants as asks
use Rattle.game_sheet.specs.declared.args.Arg.{Arg}
use Rattle.json_tree.specs.Fields.{natural_in}
use Rattle.sheet_json.specs.Arguments.{arguments_in}
use Rattle.sheet_json.specs.Seats.{is_null_in, or_null}
use Rattle.sight_reading.specs.Reading.{◌>>=◌, natural_at, of_members, unless_null, text_at}
use Rattle.sight_reading.specs.CtxReading.{phase_in}
use Rattle.sight_reading.specs.declared.entry_read.Deed.{Deed}

-- the arguments, or none where they are hidden
abbrev pub args_in : Option Data → Option (Option (List Arg))
args_in found = option_and_then (λ d. unless_null d (option_and_then arguments_in (as_array d))) found

abbrev pub move_with : ℕ → Option (List Arg) → Deed
move_with id None = record { act = Move id []; hidden = true }
move_with id (Some args) = record { act = Move id args; hidden = false }

unfoldable pub move_in : Sheet → Data → Option Deed
move_in sheet d = of_members (codes "args" ∷ codes "kind" ∷ codes "move" ∷ []) d
    (args_in (get (codes "args") d) >>= λ args. option_and_then (move_of sheet) (text_at (get (codes "move") d)) >>= λ id. Some (move_with id args))

-- an event that is aimed at nothing
abbrev pub aimless : event.Event → Option Data → Option event.Event
aimless e found = if is_null_in found then Some e else None

-- an event of a kind, with what it is aimed at
abbrev pub event_of : Sheet → EventKind → Option Data → Option event.Event
event_of sheet asks.EndTurn found = option_map EndTurn (result_ok (or_null (natural_in 255) found))
event_of sheet asks.EndPhase found = aimless EndPhase found
event_of sheet asks.SetPhase found = option_map SetPhase (option_and_then (phase_of sheet) (text_at found))
event_of sheet asks.EndStage found = aimless EndStage found
event_of sheet asks.SetStage found = option_map SetStage (option_and_then (stage_of sheet) (text_at found))
event_of sheet asks.EndGame found = aimless (EndGame Ended) found

abbrev pub event_by : Sheet → List ℕ → Option Data → Option event.Event
event_by sheet name found = option_and_then (λ k. event_of sheet k found) (kind_from name)

unfoldable pub event_in : Sheet → Data → Option event.Event
event_in sheet d = of_members (codes "event" ∷ codes "kind" ∷ codes "to" ∷ []) d
    (text_at (get (codes "event") d) >>= λ name. event_by sheet name (get (codes "to") d))

abbrev pub alone_in : Act → Data → Option Deed
alone_in act d = of_members (codes "kind" ∷ []) d (Some (record { act = act; hidden = false }))

unfoldable pub deed_in : Sheet → Data → Option Deed
deed_in sheet d = text_at (get (codes "kind") d) >>= λ kind. if bytes_eq kind (codes "move") then move_in sheet d
    else if bytes_eq kind (codes "event") then option_map (λ e. record { act = Event e; hidden = false }) (event_in sheet d)
    else if bytes_eq kind (codes "undo") then alone_in Undo d
    else if bytes_eq kind (codes "redo") then alone_in Redo d else None

unfoldable pub entry_in : Sheet → Data → Option Entry
entry_in sheet d = of_members (codes "act" ∷ codes "number" ∷ codes "phase" ∷ codes "seat" ∷ codes "turn" ∷ []) d
    (natural_at 4294967295 (get (codes "number") d) >>= λ at. phase_in sheet (get (codes "phase") d) >>= λ phase.
    natural_at 255 (get (codes "seat") d) >>= λ seat. natural_at 4294967295 (get (codes "turn") d) >>= λ turn.
    option_and_then (deed_in sheet) (get (codes "act") d) >>= λ deed.
    Some (record { seat = seat; act = deed.act; hidden = deed.hidden; number = at; turn = turn; phase = phase; words = 0 }))
