-- A script as it is played over one room whose changes are kept.
use Rattle.std.specs.Prelude.{ℕ, List, [], ◌∷◌, Bool, true, false, None, Result, Ok, Err}
use Rattle.any_game.specs.AnyRules.{any_rules, named}
use Rattle.any_game.specs.GameKind.{GameKind}
use Rattle.hall_history.specs.Hall.{Hall}
use Rattle.hall_history.specs.Mark.{Mark}
use Rattle.hall_history.specs.Script.{Step, does, runs_script}
use Rattle.hall_history.specs.Tapes.{hall_tape}
use Rattle.line_runner.specs.Play.{Play}
use Rattle.line_runner.specs.declared.interpreter.LineNo.{LineNo}
use Rattle.line_runner.specs.declared.interpreter.LineNo.TheVariants.{NoMemory}
use Rattle.session_hall.specs.Held.{HeldHall}
use Rattle.script_steps.specs.Forms.{step_of}
use Rattle.kept_room.specs.Journal.{Calls}
use Rattle.kept_script.specs.declared.hall.KeptHall.{KeptHall}

-- what lines come to: the hall of one room; and what no line changes: the disk before its file was opened, the calls by which its records
-- were made again, and whether it is known that the disk goes by the model
pub record KeptState (D : Type 0) : Type 0 where
  pub hall : Hall GameKind
  pub start : D
  pub first : Calls
  pub told : Bool

abbrev pub with_hall : {D A : Type 0} → KeptState D → Hall GameKind × A → KeptState D × A
with_hall s done = (record s { hall = done.0 }, done.1)

-- a step makes of the hall what it makes of a script's, and prints that
abbrev pub kept_does : {D : Type 0} → Mark → Step → KeptState D → KeptState D × List ℕ
kept_does mark step s = with_hall s (does named any_rules hall_tape mark step s.hall)

abbrev pub kept_runs : {D : Type 0} → List Mark → List Step → KeptState D → KeptState D × List ℕ
kept_runs marks steps s = with_hall s (runs_script named any_rules hall_tape marks steps s.hall)

unfoldable pub kept_play : {D : Type 0} → Play Mark Step (KeptState D)
kept_play = record { form = step_of; runs = kept_runs; Tells = λ marks lines. Unit {0} }

-- it begins with a hall of one room to which these calls have come, and nothing else
abbrev pub opened_hall : Calls → Hall GameKind
opened_hall first = record { rooms = first ∷ []; at = λ pass. None; place = 0; seed = None }

abbrev pub opened_state : {D : Type 0} → D → Calls → Bool → KeptState D
opened_state start first told = record { hall = opened_hall first; start = start; first = first; told = told }

-- what is held of the sessions and the room, as session_hall has it
abbrev pub hall_of : {D : Type 0} → KeptHall D → HeldHall
hall_of s = record { books = s.room.object.book ∷ []; cores = s.cores.items; tape = s.tape; seed = s.seed }

-- what a line comes to where its step was done, or there was no memory for it; where the room has stopped, nothing of it may be printed
abbrev pub ended_unless : {A E : Type 0} → Bool → Result A E → Result A LineNo
ended_unless false (Ok done) = Ok done
ended_unless true (Ok done) = Err NoMemory
ended_unless stopped (Err starved) = Err NoMemory
