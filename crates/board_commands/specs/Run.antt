-- What a run of the program comes to, by the command that its words ask for.
use Rattle.std.specs.Prelude.{◌≡◌, ℕ, List, Option, Some, None, IsSome}
use Rattle.board_links.specs.Faults.{HasRisen}
use Rattle.board_links.specs.Pieces.{told_bytes}
use Rattle.journal_replay.specs.Replaying.{ReplayEnds, ReplayRaises}
use Rattle.line_runner.specs.Play.{Play}
use Rattle.line_runner.specs.Running.{AreInForm, EndsOver, ExitRaises, IsComplete}
use Rattle.line_runner.specs.declared.exit.Exit.{Exit}
use Rattle.line_runner.specs.declared.exit.Exit.TheVariants.{Usage}
use Rattle.world_script.specs.Converging.{ConvergesIn, telling}
use Rattle.world_script.specs.Deliveries.{first_world}
use Rattle.world_script.specs.ScriptPlay.{first_hall, script_play}
use Rattle.world_script.specs.WorldPlay.{world_play}
use Rattle.board_commands.specs.Workloads.{Prints, workload_text}
use Rattle.board_commands.specs.declared.command.Command.{Command}
use Rattle.board_commands.specs.declared.command.Command.TheVariants.{Script, World, Replay, Workload}

-- a source or a sink, before a run and after it: the bytes that it tells, and its count of faults
pub record Stream : Type 0 where
  pub before : Option (List ℕ)
  pub after : Option (List ℕ)
  pub faults : ℕ
  pub faults_after : ℕ

abbrev pub HasFailed : Stream → Type 0
HasFailed s = HasRisen s.faults s.faults_after

module _ (source sink : Stream) (exit : Exit) where
  -- lines are run that are played so, from a state on
  pub record RunsLines {Mark Step State : Type 0} (p : Play Mark Step State) (begin : State) : Type 0 where
    pub raises : ExitRaises exit source.faults source.faults_after sink.faults sink.faults_after
    pub ends : IsSome source.before → EndsOver p begin (told_bytes source.before) (told_bytes source.after) sink.before sink.after exit
    pub completes : IsSome source.before → AreInForm p (told_bytes source.before) → (HasFailed source → ⊥) → (HasFailed sink → ⊥) → IsComplete exit

  -- a journal is replayed
  pub record Replays : Type 0 where
    pub raises : ReplayRaises exit source.faults source.faults_after sink.faults sink.faults_after
    pub ends : IsSome source.before → IsSome sink.before → ReplayEnds (told_bytes source.before) source.after (told_bytes sink.before) sink.after exit

  -- a workload is run
  pub record RunsWorkload (seed steps : ℕ) : Type 0 where
    pub raises : ExitRaises exit source.faults source.faults sink.faults sink.faults_after
    pub prints : IsSome sink.before → Prints exit (workload_text seed steps) (told_bytes sink.before) sink.after
    pub completes : (HasFailed sink → ⊥) → IsComplete exit

  abbrev pub RunsAs : Option Command → Type 0
  RunsAs None = exit ≡ Usage
  RunsAs (Some Script) = RunsLines script_play first_hall
  RunsAs (Some World) = RunsLines (telling world_play ConvergesIn) first_world
  RunsAs (Some Replay) = Replays
  RunsAs (Some (Workload seed steps)) = RunsWorkload seed steps

-- of a command that reads no source
abbrev pub IfUnread : Option Command → Type 0 → Type 0
IfUnread None P = P
IfUnread (Some (Workload seed steps)) P = P
IfUnread other P = Unit {0}

-- of words that ask for no command
abbrev pub IfNothing : Option Command → Type 0 → Type 0
IfNothing None P = P
IfNothing (Some asked) P = Unit {0}
