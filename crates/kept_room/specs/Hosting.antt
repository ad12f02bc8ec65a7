-- What a server's room stands for that keeps its changes: the calls that were made behind its desk, after those that its file's records made.
-- Once it has stopped it answers no call but a Detach, so that what its book came to by then differs in nothing that is asked of it.
use Rattle.std.specs.Prelude.{◌≡◌, ◌<◌, ◌≤◌, ℕ, Bool, true, false, List, ◌∷◌, ◌++◌, Option, Some, None}
use Rattle.any_game.specs.AnyRules.{any_rules}
use Rattle.any_game.specs.GameKind.{GameKind}
use Rattle.board_links.specs.Faults.{HasRisen}
use Rattle.object_journal.specs.declared.performing.Stop.{Stop}
use Rattle.object_journal.specs.declared.performing.Stop.TheVariants.{Full, NoMemory, NotKept}
use Rattle.record_file.specs.Records.{HasRecords, IsSettled}
use Rattle.room_disk.specs.Disk.{LeavesOnly, Only}
use Rattle.room_history.specs.Presence.{is_attached}
use Rattle.room_history.specs.declared.call.RoomCall.{RoomCall}
use Rattle.room_journal.specs.Kept.{room_records}
use Rattle.room_object.specs.Entry.{Entry}
use Rattle.kept_room.specs.Asides.{is_detach}
use Rattle.kept_room.specs.Journal.{AllFit, Calls, FillsFile, HasPart, Keeps, stands_in}
use Rattle.kept_room.specs.Opened.{IsOpenedRoom}
use Rattle.kept_room.specs.declared.room.KeptRoom.{KeptRoom}

-- a file has these records and no others
abbrev pub HasJust : List ℕ → List (List ℕ) → Type 0
HasJust file records = HasRecords file records × ((others : List (List ℕ)) → HasRecords file others → others ≡ records)

-- no pass below this number is attached after these calls
abbrev pub NobodyAfter : ℕ → ℕ → Calls → Type 0
NobodyAfter room passes h = (pass : ℕ) → pass < passes → is_attached any_rules room h pass ≡ false

-- why a room may stop: the disk's count of faults has risen, the record of one of the calls that were made behind the desk doesn't fit in the file, or
-- there was no memory
abbrev pub StopsBy : ℕ → Calls → Calls → ℕ → ℕ → Stop → Type 0
StopsBy room past h faults faults_after (NotKept place) = HasRisen faults faults_after
StopsBy room past h faults faults_after (Full place) = FillsFile room past h
StopsBy room past h faults faults_after NoMemory = Unit {0}

-- over disks with these meanings
module _ {D : Type 0} (is_told : D → Type 0) (seen : D → List ℕ) (may_leave : D → List ℕ → Type 0) (moment : D → ℕ) (left_since : D → ℕ → List ℕ → Type 0) (faults : D → ℕ) where
  -- There was a moment at which the file had just the records of these calls, all of them on the disk. A crash at any moment from then on leaves
  -- at least these: with them come the records of a first part of the later calls, or of the one change more that the next of them was to make.
  pub record WasOn (room : ℕ) (before later : Calls) (disk : D) : Type 0 where
    pub at : D
    pub end : ℕ
    pub settled : IsSettled is_told seen may_leave at end (room_records room before)
    pub since : LeavesOnly moment left_since at disk (HasPart (room_records room) before later)

  -- What the disk has of a room's changes, where it goes by the model: unless the room has stopped, all of them. A crash at any moment, if nothing
  -- was pending when the file was opened, leaves a first part of them. And whatever was replied to a call, from the moment on at which the reply
  -- was handed out, a crash leaves at least the changes up to that call. Only a Detach and want of memory, which change nothing, are owed no more. It
  -- stops only for a cause.
  pub record IsOnDisk (room : ℕ) (past : Calls) (start : D) (r : KeptRoom D) (h : Calls) : Type 0 where
    pub keeps : r.stopped ≡ None → Keeps is_told seen may_leave moment left_since faults r (h ++ past)
    pub crash : Only (seen start) (may_leave start) → LeavesOnly moment left_since start r.file.disk (HasPart (room_records room) past h)
    pub safe : (later : Calls) (e : Entry (RoomCall GameKind)) (earlier : Calls) → h ≡ later ++ (e ∷ earlier) → e.starved ≡ false → is_detach e.call ≡ false
        → WasOn room ((e ∷ earlier) ++ past) later r.file.disk
    pub never_falls : r.stopped ≡ None → faults start ≤ faults r.file.disk
    pub fits : r.stopped ≡ None → AllFit room past h
    pub cause : (why : Stop) → r.stopped ≡ Some why → StopsBy room past h (faults start) (faults r.file.disk) why

  -- The room of this number stands for these calls behind its desk, after those that came before, and the file was on this disk when it was
  -- opened, if it's told. The book has come to the same, unless the room has stopped; then it still has the same passes attached.
  pub record StandsHosted (room : ℕ) (past : Calls) (start : Option D) (r : KeptRoom D) (h : Calls) : Type 0 where
    pub real : Calls
    pub stands : stands_in r.object real
    pub present : (pass : ℕ) → is_attached any_rules room real pass ≡ is_attached any_rules room (h ++ past) pass
    pub whole : r.stopped ≡ None → real ≡ h ++ past
    pub on_disk : (s : D) → start ≡ Some s → is_told s → IsOnDisk room past s r h

  -- It stands for a history: for some calls before it was put behind its desk, and for those behind it. Where the disk that it was opened from is known,
  -- and goes by the model, the calls before have just the records that its file had.
  pub record StandsFrom (room : ℕ) (start : Option D) (r : KeptRoom D) (h : Calls) : Type 0 where
    pub past : Calls
    pub made : Calls
    pub split : h ≡ made ++ past
    pub stands : StandsHosted room past start r made
    pub had : (s : D) → start ≡ Some s → is_told s → HasJust (seen s) (room_records room past)

  -- The room of this number was opened by these calls; where the disk that it was opened from is known, and goes by the model, they have just the records
  -- that its file had. After them no pass below this number is attached.
  pub record IsOpenedBy (room passes : ℕ) (past : Calls) (start : Option D) (r : KeptRoom D) : Type 0 where
    pub disk : D
    pub opened : IsOpenedRoom is_told seen may_leave moment left_since faults room disk past false r
    pub nobody : NobodyAfter room passes past
    pub told : (s : D) → start ≡ Some s → is_told s → IsOpenedRoom is_told seen may_leave moment left_since faults room s past true r
