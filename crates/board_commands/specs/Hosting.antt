-- How `serve --keep` ends, by what its words ask for and by what becomes of its rooms, and what is left of their disks.
use Rattle.std.specs.Prelude.{◌≡◌, ◌⊎◌, ◌++◌, ℕ, List, [], ◌∷◌, length, Bool, Option, Some, None, option_map}
use Rattle.command_words.specs.declared.serve.ServeWords.{ServeWords}
use Rattle.door_serve.specs.Ends.{EndsBy}
use Rattle.door_serve.specs.declared.serving.ServeEnd.{ServeEnd}
use Rattle.door_serve.specs.declared.serving.ServeEnd.TheVariants as end
use Rattle.kept_room.specs.Journal.{Calls}
use Rattle.kept_serve.specs.Anew.{AllBegin}
use Rattle.kept_serve.specs.Kept.{Leave}
use Rattle.kept_serve.specs.Opened.{starts_at}
use Rattle.kept_serve.specs.Refused.{WereRefused}
use Rattle.kept_serve.specs.declared.opened_room.ClosedRoom.{ClosedRoom}
use Rattle.kept_serve.specs.declared.opened_room.OpenedRoom.{OpenedRoom}
use Rattle.line_runner.specs.declared.exit.Exit.{Exit}
use Rattle.line_runner.specs.declared.exit.Exit.TheVariants.{Done, WriteFault, NoMemory, DoorFault, BadRecord, LongJournal, StoreFault}
use Rattle.object_journal.specs.declared.performing.Stop.{Stop}
use Rattle.object_journal.specs.declared.performing.Stop.TheVariants as stop
use Rattle.object_journal.specs.declared.replaying.OpenNo.{OpenNo}
use Rattle.object_journal.specs.declared.replaying.OpenNo.TheVariants as open_no

-- the end where a room wasn't opened
abbrev pub exit_of_opening : OpenNo → Exit
exit_of_opening open_no.DiskFault = StoreFault
exit_of_opening open_no.Long = LongJournal
exit_of_opening (open_no.Damaged place) = BadRecord place
exit_of_opening open_no.NoMemory = NoMemory

-- why the first of these rooms that has stopped did
abbrev pub stop_or : Option Stop → Option Stop → Option Stop
stop_or None later = later
stop_or (Some why) later = Some why

abbrev pub first_stop : {D : Type 0} → List (ClosedRoom D) → Option Stop
first_stop [] = None
first_stop (room ∷ rooms) = stop_or room.stopped (first_stop rooms)

abbrev pub exit_of_stop : Option Stop → Exit
exit_of_stop None = Done
exit_of_stop (Some stop.NoMemory) = NoMemory
exit_of_stop (Some (stop.Full place)) = LongJournal
exit_of_stop (Some (stop.NotKept place)) = StoreFault

-- the end of a run that served these rooms: why the first stopped, unless something else failed
abbrev pub exit_after : {D : Type 0} → ServeEnd → List (ClosedRoom D) → Exit
exit_after end.Done rooms = exit_of_stop (first_stop rooms)
exit_after end.DoorFault rooms = DoorFault
exit_after end.WriteFault rooms = WriteFault
exit_after end.NoMemory rooms = NoMemory

-- over disks with these meanings
module _ {D : Type 0} (is_told : D → Type 0) (seen : D → List ℕ) (may_leave : D → List ℕ → Type 0) (moment : D → ℕ) (left_since : D → ℕ → List ℕ → Type 0) (disk_faults : D → ℕ) where
  -- the rooms that were asked for were opened from disks that the shelf gave, or from these once their files were begun anew, and served
  pub record HasHosted (asked : ServeWords) (served : List Calls → List Calls → Type 0) (exit : Exit) (closed : List (ClosedRoom D)) (given given_after : Option (List D)) (faults : ℕ) (links : Option ℕ) (shut : Bool)
      (faults_after count sink_faults sink_faults_after : ℕ) : Type 0 where
    pub opened : List (OpenedRoom D)
    pub many : length opened ≡ asked.rooms
    pub disks : List D
    pub gave : given_after ≡ option_map (λ before. before ++ disks) given
    pub begin : AllBegin is_told seen may_leave moment left_since disk_faults disks opened
    pub how : ServeEnd
    pub exits : exit ≡ exit_after how closed
    pub ended : EndsBy how asked.sessions faults links shut faults_after count sink_faults sink_faults_after
    pub leaves : Leave is_told seen may_leave moment left_since disk_faults (starts_at opened) (length opened) served how closed

  -- or one of them wasn't opened, for a reason that is the end's; no link was taken, and no fault of the listener or of the sink was counted
  abbrev pub Hosts : ServeWords → (List Calls → List Calls → Type 0) → Exit → List (ClosedRoom D) → Option (List D) → Option (List D) → ℕ → ℕ → ℕ → Option ℕ → Bool → ℕ → ℕ → ℕ → ℕ → Type 0
  Hosts asked served exit closed given given_after shelf_faults shelf_faults_after faults links shut faults_after count sink_faults sink_faults_after =
      HasHosted asked served exit closed given given_after faults links shut faults_after count sink_faults sink_faults_after
      ⊎ ((why : OpenNo) × WereRefused is_told seen disk_faults asked.rooms given given_after shelf_faults shelf_faults_after why × (exit ≡ exit_of_opening why) × (closed ≡ []) × (count ≡ 0) × (faults_after ≡ faults) × (sink_faults_after ≡ sink_faults))
