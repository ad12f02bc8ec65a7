-- How a run over a kept room ends, by the lines' run and by why the room has stopped; and what is left of the disk.
use Rattle.std.specs.Prelude.{◌≡◌, ℕ, Bool, true, List, [], ◌∷◌, ◌++◌, Option, Some, None}
use Rattle.board_links.specs.Faults.{HasRisen}
use Rattle.line_runner.specs.Play.{after_steps, steps_of}
use Rattle.line_runner.specs.Running.{Ends, ExitRaises, IsComplete, Leaves}
use Rattle.line_runner.specs.ScriptLines.{script}
use Rattle.line_runner.specs.declared.exit.Exit.{Exit}
use Rattle.line_runner.specs.declared.exit.Exit.TheVariants.{NoMemory, BadRecord, LongJournal, StoreFault}
use Rattle.object_journal.specs.Opening.{IsRefused}
use Rattle.object_journal.specs.declared.performing.Stop.{Stop}
use Rattle.object_journal.specs.declared.performing.Stop.TheVariants as stop
use Rattle.object_journal.specs.declared.replaying.OpenNo.{OpenNo}
use Rattle.object_journal.specs.declared.replaying.OpenNo.TheVariants as open_no
use Rattle.record_file.specs.Damage.{AllFollow}
use Rattle.record_file.specs.Records.{HasRecords}
use Rattle.room_journal.specs.Coming.{ReadsBack}
use Rattle.room_journal.specs.Kept.{may_follow, room_records}
use Rattle.kept_room.specs.Journal.{Calls, FillsFile, stands_in}
use Rattle.kept_script.specs.KeptDoing.{kept_doing}
use Rattle.kept_script.specs.KeptPlay.{KeptState, kept_play, opened_state}
use Rattle.kept_script.specs.declared.hall.KeptHall.{KeptHall}

-- why a file wasn't opened
abbrev pub exit_of : OpenNo → Exit
exit_of open_no.DiskFault = StoreFault
exit_of open_no.Long = LongJournal
exit_of (open_no.Damaged place) = BadRecord place
exit_of open_no.NoMemory = NoMemory

-- a run for which there was no memory, where the room has stopped
abbrev pub exit_by : Option Stop → Exit
exit_by None = NoMemory
exit_by (Some stop.NoMemory) = NoMemory
exit_by (Some (stop.Full place)) = LongJournal
exit_by (Some (stop.NotKept place)) = StoreFault

abbrev pub exit_after : Exit → Option Stop → Exit
exit_after NoMemory stopped = exit_by stopped
exit_after exit stopped = exit

-- the end of the lines' run; the room's stop ends it as want of memory does, at a line that prints nothing
abbrev pub as_run : Exit → Exit
as_run LongJournal = NoMemory
as_run StoreFault = NoMemory
as_run exit = exit

-- a count of the source or of the sink rises only at a fault of the lines' run, and not where the file wasn't opened
abbrev pub KeptRaises : Exit → ℕ → ℕ → ℕ → ℕ → Type 0
KeptRaises (BadRecord place) source_old source_new sink_old sink_new = (source_new ≡ source_old) × (sink_new ≡ sink_old)
KeptRaises exit source_old source_new sink_old sink_new = ExitRaises (as_run exit) source_old source_new sink_old sink_new

-- the lines' run came to its end, or the file ended it, or there was no memory
abbrev pub IsKeptComplete : Exit → Type 0
IsKeptComplete (BadRecord place) = Unit {0}
IsKeptComplete exit = IsComplete (as_run exit)

-- the file wasn't opened, or there was no memory to begin
pub record IsUnopened {D : Type 0} (is_told : D → Type 0) (seen : D → List ℕ) (faults : D → ℕ) (start disk : D) (exit : Exit) : Type 0 where
  pub no : OpenNo
  pub is : exit ≡ exit_of no
  pub refused : IsRefused (may_follow 0) is_told seen faults start disk no

-- calls came after those of a state's room, and the record of one of them doesn't fit
pub record IsFull {D : Type 0} (hall : KeptHall D) (s : KeptState D) : Type 0 where
  pub history : Calls
  pub is : s.hall.rooms ≡ history ∷ []
  pub more : Calls
  pub stands : stands_in hall.room.object (more ++ history)
  pub fills : FillsFile 0 history more

module _ {D : Type 0} (is_told : D → Type 0) (seen : D → List ℕ) (may_leave : D → List ℕ → Type 0) (moment : D → ℕ) (left_since : D → ℕ → List ℕ → Type 0) (faults : D → ℕ) where
  -- Lines were run from a state on. Some first lines were done and printed, and what ran them stands for the state after them, with each of their
  -- changes kept, or was left so by the next line. It ends for a full file only where a record doesn't fit.
  pub record HasRun (s : KeptState D) (bytes left before : List ℕ) (after : Option (List ℕ)) (exit : Exit) (disk : D) : Type 0 where
    pub ends : Ends kept_play s bytes left before after (as_run exit)
    pub hall : KeptHall D
    pub handed : disk ≡ hall.room.file.disk
    pub leaves : Leaves kept_play (kept_doing is_told seen may_leave moment left_since faults) s (script bytes) hall before after (as_run exit)
    pub stops : exit ≡ exit_after (as_run exit) hall.room.stopped
    pub store : exit ≡ StoreFault → HasRisen (faults s.start) (faults disk)
    pub full : s.told ≡ true → exit ≡ LongJournal
        → IsFull hall (after_steps (kept_doing is_told seen may_leave moment left_since faults) leaves.marks (steps_of (kept_play {D = D}).form leaves.done) s)

  -- the file was opened, its records were made again by these calls, and the lines were run from there on
  pub record RunsOpened (start : D) (told : Bool) (bytes left before : List ℕ) (after : Option (List ℕ)) (exit : Exit) (disk : D) : Type 0 where
    pub first : Calls
    pub had : told ≡ true → HasRecords (seen start) (room_records 0 first)
    pub reads : ReadsBack 0 first
    pub follow : AllFollow (may_follow 0) [] (room_records 0 first)
    pub run : HasRun (opened_state start first told) bytes left before after exit disk
