-- How a run ends, beside the bytes that its source had left before and has left after, and the player's sitting before and after.
use Rattle.std.specs.Prelude.{◌≡◌, ◌⊎◌, ℕ, ◌+◌, List, [], ◌∷◌, ◌++◌, length}
use Rattle.game_trait.specs.Rules.{Rules}
use Rattle.line_runner.specs.ScriptLines.{Script, Ended, script}
use Rattle.line_runner.specs.Reader.{whole_lines}
use Rattle.line_runner.specs.ScriptLines as script
use Rattle.link_play.specs.Commands.{Command}
use Rattle.link_play.specs.Doing.{Runs, Who}
use Rattle.link_play.specs.Plan.{AtBad, AtEnd, Close, Open, plan_of}
use Rattle.link_play.specs.Sitting.{Sitting}
use Rattle.link_play.specs.Stopping.{StopsIn}
use Rattle.line_runner.specs.declared.exit.Exit.{Exit}
use Rattle.line_runner.specs.declared.exit.Exit.TheVariants.{Done, Usage, ReadFault, WriteFault, BadLine, TooLong, TooMany, NoMemory, DoorFault, LinkFault, LinkEnded, LinkLong}
use Rattle.link_play.specs.declared.stop.Stop.{Stop}
use Rattle.link_play.specs.declared.stop.Stop.TheVariants as stop

module _ {G : Type 0} (rules : Rules G) (who : Who) where
  -- all commands of the lines were done, up to the line that ends the run so
  pub record RunsAll (lines : List (List ℕ)) (close : Close) (s t : Sitting G) : Type 0 where
    pub closes : (plan_of lines).close ≡ close
    pub runs : Runs rules who (plan_of lines).commands s t

  -- all commands were done, and the reading came to this ending
  pub record RunsOut (lines : Script) (ending : script.Ending) (s t : Sitting G) : Type 0 where
    pub ends : lines.ending ≡ ending
    pub all : RunsAll lines.lines Open s t

  -- the source was read to its end
  pub record ReadsOut (bytes left : List ℕ) (s t : Sitting G) : Type 0 where
    pub all_read : left ≡ []
    pub all : RunsOut (script bytes) Ended s t

  -- the line after the last one has more bytes than a line may have
  pub record StopsAtLong (lines : Script) (line : ℕ) (s t : Sitting G) : Type 0 where
    pub all : RunsOut lines script.TooLong s t
    pub numbered : line ≡ length lines.lines + 1

  -- the source gave these first bytes and no more, and the commands of their whole lines were done
  pub record StopsAtFault (bytes left : List ℕ) (s t : Sitting G) : Type 0 where
    pub read : List ℕ
    pub first_part : bytes ≡ read ++ left
    pub all : RunsOut (whole_lines read) Ended s t

  -- some first commands were done, and the next one was broken off
  pub record Interrupts (why : Stop) (commands : List Command) (s t : Sitting G) : Type 0 where
    pub done : List Command
    pub under_way : Command
    pub rest : List Command
    pub parts : commands ≡ done ++ under_way ∷ rest
    pub before : Sitting G
    pub runs : Runs rules who done s before
    pub stops : StopsIn rules who under_way why before t

  -- some first commands were done, and nothing after them
  pub record Pauses (commands : List Command) (s t : Sitting G) : Type 0 where
    pub done : List Command
    pub rest : List Command
    pub parts : commands ≡ done ++ rest
    pub runs : Runs rules who done s t

  -- how a run ends
  abbrev pub Ends : Exit → List ℕ → List ℕ → Sitting G → Sitting G → Type 0
  Ends Done bytes left s t = RunsAll (script bytes).lines AtEnd s t ⊎ ReadsOut bytes left s t
  Ends (BadLine line) bytes left s t = RunsAll (script bytes).lines (AtBad line) s t
  Ends (TooLong line) bytes left s t = StopsAtLong (script bytes) line s t
  Ends TooMany bytes left s t = RunsOut (script bytes) script.TooMany s t
  Ends ReadFault bytes left s t = StopsAtFault bytes left s t
  Ends WriteFault bytes left s t = Interrupts stop.WriteFault (plan_of (script bytes).lines).commands s t
  Ends LinkFault bytes left s t = Interrupts stop.LinkFault (plan_of (script bytes).lines).commands s t
  Ends LinkEnded bytes left s t = Interrupts stop.LinkEnded (plan_of (script bytes).lines).commands s t
  Ends LinkLong bytes left s t = Interrupts stop.LinkLong (plan_of (script bytes).lines).commands s t
  Ends NoMemory bytes left s t = Pauses (plan_of (script bytes).lines).commands s t ⊎ Interrupts stop.NoMemory (plan_of (script bytes).lines).commands s t
  Ends other bytes left s t = ⊥

-- all lines of the bytes are in form and within the limits
pub record AreInForm (bytes : List ℕ) : Type 0 where
  pub within : (script bytes).ending ≡ Ended
  pub in_form : (line : ℕ) → (plan_of (script bytes).lines).close ≡ AtBad line → ⊥

-- a run came to its end, or there was no memory
abbrev pub IsComplete : Exit → Type 0
IsComplete Done = Unit {0}
IsComplete NoMemory = Unit {0}
IsComplete other = ⊥
