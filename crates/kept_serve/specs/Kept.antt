-- What the disks of a server's rooms have once the rooms are closed, and what a crash left at any moment before.
use Rattle.std.specs.Prelude.{◌≡◌, ◌⊎◌, ℕ, false, List, [], ◌∷◌, ◌++◌, length, Option, Some, None, ◌+◌}
use Rattle.any_game.specs.GameKind.{GameKind}
use Rattle.door_serve.specs.declared.serving.ServeEnd.{ServeEnd}
use Rattle.door_serve.specs.declared.serving.ServeEnd.TheVariants.{NoMemory}
use Rattle.kept_room.specs.Asides.{is_detach}
use Rattle.kept_room.specs.Hosting.{StopsBy, WasOn}
use Rattle.kept_room.specs.Journal.{AllFit, Calls, HasPart}
use Rattle.kept_room.specs.declared.room.KeptRoom.{KeptRoom}
use Rattle.kept_serve.specs.declared.opened_room.ClosedRoom.{ClosedRoom}
use Rattle.object_journal.specs.declared.performing.Stop.{Stop}
use Rattle.record_file.specs.Records.{HasRecords, IsSettled}
use Rattle.room_disk.specs.Disk.{LeavesOnly, Only}
use Rattle.room_history.specs.declared.call.RoomCall.{RoomCall}
use Rattle.room_journal.specs.Kept.{room_records}
use Rattle.room_object.specs.Entry.{Entry}

-- what is left of a room that is closed
abbrev pub left_of : {D : Type 0} → KeptRoom D → ClosedRoom D
left_of r = record { disk = r.file.disk; stopped = r.stopped }

-- over disks with these meanings
module _ {D : Type 0} (is_told : D → Type 0) (seen : D → List ℕ) (may_leave : D → List ℕ → Type 0) (moment : D → ℕ) (left_since : D → ℕ → List ℕ → Type 0) (faults : D → ℕ) where
  -- a history goes on from calls that have just the records that the file of a disk had
  abbrev pub GoesOnFrom : ℕ → D → Calls → Type 0
  GoesOnFrom room start h = (before : Calls) × (since : Calls) × (h ≡ since ++ before) × HasRecords (seen start) (room_records room before)

  -- one call more adds a record
  abbrev pub AddsRecord : ℕ → Calls → Entry (RoomCall GameKind) → Type 0
  AddsRecord room h e = room_records room (e ∷ h) ≡ room_records room h → ⊥

  -- The room of this number came from the file of a disk. Its history has some first calls, which have just the records that the file had, and those that
  -- were made since, the latest first.
  pub record HasKept (room : ℕ) (start : D) (past history : Calls) (closed : ClosedRoom D) : Type 0 where
    pub first : Calls
    pub made : Calls
    pub split : history ≡ made ++ first
    pub had : HasRecords (seen start) (room_records room first)
    -- what it stood for when serving began goes on from such calls too; and every later call that added a record is one of those made
    pub began : GoesOnFrom room start past
    pub since : (later : Calls) (e : Entry (RoomCall GameKind)) (earlier : Calls) → history ≡ later ++ (e ∷ (earlier ++ past)) → AddsRecord room (earlier ++ past) e
        → (rest : Calls) × (made ≡ later ++ (e ∷ rest))
    -- a room that hasn't stopped has the records of all of them on its disk
    pub settled : closed.stopped ≡ None → (end : ℕ) × IsSettled is_told seen may_leave closed.disk end (room_records room (made ++ first))
    -- whenever a crash came, it left the records of some first part of them, if nothing was pending when the file was opened
    pub crash : Only (seen start) (may_leave start) → LeavesOnly moment left_since start closed.disk (HasPart (room_records room) first made)
    -- and from each reply on, but to a Detach or for want of memory, those of all calls up to that one at least
    pub safe : (later : Calls) (e : Entry (RoomCall GameKind)) (earlier : Calls) → made ≡ later ++ (e ∷ earlier) → e.starved ≡ false → is_detach e.call ≡ false
        → WasOn is_told seen may_leave moment left_since faults room ((e ∷ earlier) ++ first) later closed.disk
    -- a room that hasn't stopped had room for all records; one that has stopped had a cause
    pub fits : closed.stopped ≡ None → AllFit room first made
    pub cause : (why : Stop) → closed.stopped ≡ Some why → StopsBy room first made (faults start) (faults closed.disk) why

  -- so each of these rooms did, numbered from one on, by its histories then and in the end, where its disk is known, and went by the model when the room was
  -- opened
  abbrev pub HaveKept : (ℕ → Option D) → ℕ → List Calls → List Calls → List (ClosedRoom D) → Type 0
  HaveKept start room [] [] [] = Unit {0}
  HaveKept start room (past ∷ pasts) (history ∷ histories) (closed ∷ rooms) =
      ((disk : D) → start room ≡ Some disk → is_told disk → HasKept room disk past history closed) × HaveKept start (room + 1) pasts histories rooms
  HaveKept start room pasts histories rooms = ⊥

  -- so many rooms come back so, each by its histories, and what was served was served by these histories; or there was no memory to serve them
  abbrev pub Leave : (ℕ → Option D) → ℕ → (List Calls → List Calls → Type 0) → ServeEnd → List (ClosedRoom D) → Type 0
  Leave start many served how closed =
      ((pasts : List Calls) × (histories : List Calls) × (length closed ≡ many) × HaveKept start 0 pasts histories closed × served pasts histories)
      ⊎ ((how ≡ NoMemory) × (closed ≡ []))
