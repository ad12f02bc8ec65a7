-- Lines run as a list of steps that fit, so the laws of worlds hold of them; and what holds of all lines holds of those that were played.
use Rattle.std.proofs.Common.{◌≤◌, ℕ, List, [], Option, Some, None, refl, arith}
use Rattle.any_game.specs.AnyRules.{named}
use Rattle.any_game.specs.GameKind.{GameKind}
use Rattle.client_world.specs.Reading.{world_step_of}
use Rattle.hall_history.specs.Mark.{Mark}
use Rattle.hall_history.specs.Tapes.{hall_tape}
use Rattle.world_convergence.specs.Converging.{Converges}
use Rattle.world_convergence.specs.Meeting.{Run}
use Rattle.world_script.specs.Converging.{ConvergesIn, telling}
use Rattle.world_script.specs.Sessions.{room_count}
use Rattle.line_runner.specs.Play.{Play, printed, steps_of}
use Rattle.line_runner.specs.Running.{BreaksOff, Ends, EndsOver, Plays, PlaysAll}
use Rattle.line_runner.specs.ScriptLines.{Ending, Script, script}
use Rattle.line_runner.specs.declared.exit.Exit.{Exit}
use Rattle.line_runner.specs.declared.exit.Exit.TheVariants as exit
use Rattle.world_script.proofs.Fitting.{lines_fit}

few : room_count ≤ 64
few = omega arith

abbrev run_of : List Mark → List (List ℕ) → Run GameKind
run_of marks lines = record { rooms = room_count; few = few; marks = marks; steps = steps_of world_step_of lines; fit = lines_fit lines }

pub converges_in : ((naming : List ℕ → Option GameKind) (tape : ℕ → List ℕ) (run : Run GameKind) → Converges naming tape run) → (marks : List Mark) (lines : List (List ℕ)) → ConvergesIn marks lines
converges_in law marks lines = record { run = run_of marks lines; in_rooms = refl; by_marks = refl; of_lines = refl; converges = law named hall_tape (run_of marks lines) }

module _ {Mark Step State : Type 0} (p : Play Mark Step State) (holds : List Mark → List (List ℕ) → Type 0) (law : (marks : List Mark) (lines : List (List ℕ)) → holds marks lines) (begin : State) where
  plays_too : (lines : List (List ℕ)) (before : List ℕ) (after : Option (List ℕ)) → Plays p begin lines before after → Plays (telling p holds) begin lines before after
  unfolding printed
  plays_too lines before after h = record { marks = h.marks; added = h.added; tells = (h.tells, law h.marks lines) }

  all_too : (s : Script) (ending : Ending) (before : List ℕ) (after : Option (List ℕ)) → PlaysAll p begin s ending before after → PlaysAll (telling p holds) begin s ending before after
  all_too s ending before after h = record { ends = h.ends; no_bad_line = h.no_bad_line; plays = plays_too s.lines before after h.plays }

  breaks_too : (s : Script) (before : List ℕ) (after : Option (List ℕ)) → BreaksOff p begin s before after → BreaksOff (telling p holds) begin s before after
  unfolding printed
  breaks_too s before after h = record { marks = h.marks; printed_bytes = h.printed_bytes; missing = h.missing; whole = h.whole; added = h.added }

  -- a law of all marks and lines is told of those of a run
  ends_too : (bytes left before : List ℕ) (after : Option (List ℕ)) (end : Exit) → Ends p begin bytes left before after end → Ends (telling p holds) begin bytes left before after end
  ends_too bytes left before after exit.Done h = record { all_read = h.all_read; plays = all_too (script bytes) _ before after h.plays }
  ends_too bytes left before after exit.Usage h = absurd h
  ends_too bytes left before after exit.ReadFault h = record { read = h.read; first_part = h.first_part; plays = all_too _ _ before after h.plays }
  ends_too bytes left before after exit.WriteFault h = breaks_too (script bytes) before after h
  ends_too bytes left before after (exit.BadLine line) h = record { first_bad = h.first_bad; plays = plays_too _ before after h.plays }
  ends_too bytes left before after (exit.TooLong line) h = record { plays = all_too (script bytes) _ before after h.plays; numbered = h.numbered }
  ends_too bytes left before after exit.TooMany h = all_too (script bytes) _ before after h
  ends_too bytes left before after exit.NoMemory h = record { done = h.done; rest = h.rest; lines = h.lines; plays = plays_too h.done before after h.plays }
  ends_too bytes left before after exit.DoorFault h = absurd h
  ends_too bytes left before after exit.LinkFault h = absurd h
  ends_too bytes left before after exit.LinkEnded h = absurd h
  ends_too bytes left before after exit.LinkLong h = absurd h
  ends_too bytes left before after (exit.BadRecord place) h = absurd h
  ends_too bytes left before after exit.LongJournal h = absurd h
  ends_too bytes left before after exit.StoreFault h = absurd h

  pub over_too : (bytes left : List ℕ) (before after : Option (List ℕ)) (end : Exit) → EndsOver p begin bytes left before after end → EndsOver (telling p holds) begin bytes left before after end
  over_too bytes left (Some before) after end h = ends_too bytes left before after end h
  over_too bytes left None after end h = (h.0, ends_too bytes left [] h.0 end h.1)
