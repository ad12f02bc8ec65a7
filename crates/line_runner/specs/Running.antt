-- How a run ends that begins with a state, beside the lines that were read and the bytes that the sink held before and holds after. The
-- marks are those of this run.
use Rattle.std.specs.Prelude.{◌≡◌, ◌⊎◌, ◌+◌, ℕ, List, [], ◌++◌, length, take, Option, Some, None}
use Rattle.board_links.specs.Faults.{HasRisen}
use Rattle.line_runner.specs.Play.{Play, Doing, after_steps, bad_line, printed, steps_of}
use Rattle.line_runner.specs.ScriptLines.{Script, Ending, Ended, lines_from, no_lines, script}
use Rattle.line_runner.specs.ScriptLines as script
use Rattle.line_runner.specs.declared.exit.Exit.{Exit}
use Rattle.line_runner.specs.declared.exit.Exit.TheVariants.{Done, ReadFault, WriteFault, BadLine, TooLong, TooMany, NoMemory}
use Rattle.line_runner.specs.declared.next.Next.{Next}
use Rattle.line_runner.specs.declared.next.Next.TheVariants as next
use Rattle.line_runner.specs.declared.run.LineStatus.{LineStatus}
use Rattle.line_runner.specs.declared.run.LineStatus.TheVariants as status

module _ {Mark Step State : Type 0} (p : Play Mark Step State) (begin : State) where
  -- lines were played up to the first in no form, and their transcript was added
  pub record Plays (lines : List (List ℕ)) (before : List ℕ) (after : Option (List ℕ)) : Type 0 where
    pub marks : List Mark
    pub added : after ≡ Some (before ++ printed p marks lines begin)
    pub tells : p.Tells marks lines

  -- the reading of the script came to this ending, and each line before it is in form and was played
  pub record PlaysAll (s : Script) (ending : Ending) (before : List ℕ) (after : Option (List ℕ)) : Type 0 where
    pub ends : s.ending ≡ ending
    pub no_bad_line : bad_line p.form s.lines ≡ None
    pub plays : Plays s.lines before after

  -- the script was read to its end
  pub record RunsToEnd (bytes left before : List ℕ) (after : Option (List ℕ)) : Type 0 where
    pub all_read : left ≡ []
    pub plays : PlaysAll (script bytes) Ended before after

  -- the line after the last one has more bytes than a line may have
  pub record StopsAtLong (s : Script) (line : ℕ) (before : List ℕ) (after : Option (List ℕ)) : Type 0 where
    pub plays : PlaysAll s script.TooLong before after
    pub numbered : line ≡ length s.lines + 1

  -- this line is the first in no form, and those before it were played
  pub record StopsAtBad (s : Script) (line : ℕ) (before : List ℕ) (after : Option (List ℕ)) : Type 0 where
    pub first_bad : bad_line p.form s.lines ≡ Some line
    pub plays : Plays s.lines before after

  -- the source gave these first bytes and no more; each of their lines that a newline ends is in form and was played
  pub record StopsAtFault (bytes left before : List ℕ) (after : Option (List ℕ)) : Type 0 where
    pub read : List ℕ
    pub first_part : bytes ≡ read ++ left
    pub plays : PlaysAll (lines_from (λ begun. no_lines Ended) 0 [] read) Ended before after

  -- some first lines of the script were played, and no further one
  pub record StopsEarly (s : Script) (before : List ℕ) (after : Option (List ℕ)) : Type 0 where
    pub done : List (List ℕ)
    pub rest : List (List ℕ)
    pub lines : s.lines ≡ done ++ rest
    pub plays : Plays done before after

  -- a first part of the transcript was added
  pub record BreaksOff (s : Script) (before : List ℕ) (after : Option (List ℕ)) : Type 0 where
    pub marks : List Mark
    pub printed_bytes : List ℕ
    pub missing : List ℕ
    pub whole : printed_bytes ++ missing ≡ printed p marks s.lines begin
    pub added : after ≡ Some (before ++ printed_bytes)

  -- how a run ends, by the bytes that the source had left before it and has left after it
  abbrev pub Ends : List ℕ → List ℕ → List ℕ → Option (List ℕ) → Exit → Type 0
  Ends bytes left before after Done = RunsToEnd bytes left before after
  Ends bytes left before after (BadLine line) = StopsAtBad (script bytes) line before after
  Ends bytes left before after (TooLong line) = StopsAtLong (script bytes) line before after
  Ends bytes left before after TooMany = PlaysAll (script bytes) script.TooMany before after
  Ends bytes left before after WriteFault = BreaksOff (script bytes) before after
  Ends bytes left before after ReadFault = StopsAtFault bytes left before after
  Ends bytes left before after NoMemory = StopsEarly (script bytes) before after
  Ends bytes left before after other = ⊥

  -- the same over a sink, by what it tells that it held before and holds after; where it tells nothing, the run ends so with some text that was printed
  abbrev pub EndsOver : List ℕ → List ℕ → Option (List ℕ) → Option (List ℕ) → Exit → Type 0
  EndsOver bytes left (Some before) after exit = Ends bytes left before after exit
  EndsOver bytes left None after exit = (shown : Option (List ℕ)) × Ends bytes left [] shown exit

module _ {Mark Step State : Type 0} (p : Play Mark Step State) where
  -- all lines of the bytes are in form and within the limits
  pub record AreInForm (bytes : List ℕ) : Type 0 where
    pub within : (script bytes).ending ≡ Ended
    pub in_form : bad_line p.form (script bytes).lines ≡ None

module _ {Mark Step State Held : Type 0} (p : Play Mark Step State) (d : Doing Mark Step State Held) where
  -- a line in form was done and printed what it says
  pub record RanOn (h : State) (line : List ℕ) (hall : Held) (held : List ℕ) (after : Option (List ℕ)) : Type 0 where
    pub mark : Mark
    pub step : Step
    pub in_form : p.form line ≡ Some step
    pub stands : d.Stands hall (d.does mark step h).0
    pub added : after ≡ Some (held ++ (d.does mark step h).1)

  -- a line in form was done, and printed a first part of what it says
  pub record StoppedIn (h : State) (line : List ℕ) (hall : Held) (held : List ℕ) (after : Option (List ℕ)) : Type 0 where
    pub mark : Mark
    pub step : Step
    pub in_form : p.form line ≡ Some step
    pub stands : d.Stands hall (d.does mark step h).0
    pub printed_bytes : ℕ
    pub added : after ≡ Some (held ++ take printed_bytes (d.does mark step h).1)

  -- what one line came to, after a state and with these bytes held
  abbrev pub RanLine : State → List ℕ → Held → List ℕ → Option (List ℕ) → LineStatus → Type 0
  RanLine h line hall held after status.Done = RanOn h line hall held after
  RanLine h line hall held after status.BadLine = (p.form line ≡ None) × (after ≡ Some held) × d.Stands hall h
  RanLine h line hall held after status.WriteFault = StoppedIn h line hall held after
  RanLine h line hall held after status.NoMemory = (after ≡ Some held) × d.Fails hall h

  -- the same over a sink, by what it tells: on top of whatever bytes, some were printed, and those where it held these
  abbrev pub RanOver : State → List ℕ → Held → Option (List ℕ) → Option (List ℕ) → LineStatus → Type 0
  RanOver h line hall before after status = (held : List ℕ) → (shown : Option (List ℕ)) × RanLine h line hall held shown status × (before ≡ Some held → after ≡ shown)

  module _ (begin : State) where
    -- Some first lines were run, and stand for the state after them, or there was no memory for the next one and it failed. Their transcript was
    -- added, or a first part of it where the sink failed.
    pub record Leaves (s : Script) (hall : Held) (before : List ℕ) (after : Option (List ℕ)) (exit : Exit) : Type 0 where
      pub marks : List Mark
      pub done : List (List ℕ)
      pub rest : List (List ℕ)
      pub lines : s.lines ≡ done ++ rest
      pub shown : List ℕ
      pub missing : List ℕ
      pub whole : shown ++ missing ≡ printed p marks done begin
      pub added : after ≡ Some (before ++ shown)
      pub all_shown : (missing ≡ []) ⊎ (exit ≡ WriteFault)
      pub stands : d.Stands hall (after_steps d marks (steps_of p.form done) begin) ⊎ ((exit ≡ NoMemory) × d.Fails hall (after_steps d marks (steps_of p.form done) begin))

-- a run came to its end, or there was no memory
abbrev pub IsComplete : Exit → Type 0
IsComplete Done = Unit {0}
IsComplete NoMemory = Unit {0}
IsComplete other = ⊥

-- where a line didn't end the run
abbrev pub GoesOn : LineStatus → Type 0 → Type 0
GoesOn status.Done P = P
GoesOn other P = Unit {0}

-- the count of faults rose where a line ended in a fault, and stayed where it didn't
abbrev pub LineRaises : LineStatus → ℕ → ℕ → Type 0
LineRaises status.Done old new = new ≡ old
LineRaises status.BadLine old new = new ≡ old
LineRaises status.WriteFault old new = HasRisen old new
LineRaises status.NoMemory old new = new ≡ old

-- a fault of the source or the sink comes only where its count of faults rose, and a count rises only at such a fault; the run of lines that
-- were asked for is no usage error, and it has no door and no link
abbrev pub ExitRaises : Exit → ℕ → ℕ → ℕ → ℕ → Type 0
ExitRaises Done source_old source_new sink_old sink_new = (source_new ≡ source_old) × (sink_new ≡ sink_old)
ExitRaises ReadFault source_old source_new sink_old sink_new = HasRisen source_old source_new × (sink_new ≡ sink_old)
ExitRaises WriteFault source_old source_new sink_old sink_new = (source_new ≡ source_old) × HasRisen sink_old sink_new
ExitRaises (BadLine line) source_old source_new sink_old sink_new = (source_new ≡ source_old) × (sink_new ≡ sink_old)
ExitRaises (TooLong line) source_old source_new sink_old sink_new = (source_new ≡ source_old) × (sink_new ≡ sink_old)
ExitRaises TooMany source_old source_new sink_old sink_new = (source_new ≡ source_old) × (sink_new ≡ sink_old)
ExitRaises NoMemory source_old source_new sink_old sink_new = (source_new ≡ source_old) × (sink_new ≡ sink_old)
ExitRaises other source_old source_new sink_old sink_new = ⊥

-- the end where no line came after so many, and the end at a line
abbrev pub stop_at : Next → ℕ → Option Exit
stop_at next.Line given = None
stop_at next.End given = Some Done
stop_at next.TooLong given = Some (TooLong (given + 1))
stop_at next.TooMany given = Some TooMany
stop_at next.ReadFault given = Some ReadFault
stop_at next.NoMemory given = Some NoMemory

abbrev pub end_at : LineStatus → ℕ → Option Exit
end_at status.Done line = None
end_at status.BadLine line = Some (BadLine line)
end_at status.WriteFault line = Some WriteFault
end_at status.NoMemory line = Some NoMemory
