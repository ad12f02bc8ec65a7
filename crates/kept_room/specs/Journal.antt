-- What is known of a room that keeps its accepted changes in a journal, and what calls make of it and of its file.
use Rattle.std.specs.Prelude.{◌≡◌, ◌⊎◌, ◌≤◌, ℕ, List, [], ◌∷◌, ◌++◌, length, Bool, true, false, Option, Some, None}
use Rattle.any_game.specs.GameKind.{GameKind}
use Rattle.board_links.specs.Faults.{HasRisen}
use Rattle.object_journal.specs.Keeping.{HasEither, IsKeeping, IsPast}
use Rattle.object_journal.specs.declared.performing.Stop.{Stop}
use Rattle.object_journal.specs.declared.performing.Stop.TheVariants.{Full, NotKept}
use Rattle.record_file.specs.Records.{HasRecords, open_records}
use Rattle.room_disk.specs.Disk.{LeavesOnly, Only}
use Rattle.room_history.specs.declared.call.RoomCall.{RoomCall}
use Rattle.room_journal.specs.Coming.{StandsIn}
use Rattle.room_journal.specs.Kept.{room_payload, room_records}
use Rattle.room_journal.specs.declared.room_book.RoomBook.{RoomBook}
use Rattle.room_object.specs.Entry.{Entry, entry}
use Rattle.kept_room.specs.declared.room.KeptRoom.{KeptRoom}

-- calls of a room, the latest first
abbrev pub Calls : Type 0
Calls = List (Entry (RoomCall GameKind))

-- the book of a room stands for these
abbrev pub stands_in : RoomBook → Calls → Type 0
stands_in b h = StandsIn b.room b.book h

-- calls were made after others, and a crash may have cut them short
module _ (records : Calls → List (List ℕ)) (first : Calls) where
  -- the file has the records of the first calls and of some of these, from the first of them on, or of the one change more that the next was to make
  abbrev pub HasPart : Calls → List ℕ → Type 0
  HasPart [] file = HasRecords file (records first)
  HasPart (e ∷ made) file = HasEither (records (e ∷ (made ++ first))) (records (entry e.pass e.call false ∷ (made ++ first))) file ⊎ HasPart made file

-- behind the records of a history the record of a call would end, with its next gate, past the greatest length
abbrev pub IsOver : ℕ → Calls → Entry (RoomCall GameKind) → Type 0
IsOver room h e = IsPast (length (open_records (room_records room h))) (room_payload room h e.pass e.call)

-- calls were made in a room after others
module _ (room : ℕ) (first : Calls) where
  -- the record of each fits, unless it met a want of memory
  abbrev pub AllFit : Calls → Type 0
  AllFit [] = Unit {0}
  AllFit (e ∷ made) = (e.starved ≡ false → IsOver room (made ++ first) e → ⊥) × AllFit made

  -- the record of one of them doesn't fit, and those of the calls before it do
  abbrev pub FillsFile : Calls → Type 0
  FillsFile [] = ⊥
  FillsFile (e ∷ made) = (IsOver room (made ++ first) e × AllFit made) ⊎ FillsFile made

-- the count of a disk's faults never falls, and has risen where a record wasn't kept for a fault
abbrev pub StopRaises : Option Stop → ℕ → ℕ → Type 0
StopRaises (Some (NotKept place)) old new = HasRisen old new
StopRaises other old new = old ≤ new

-- over disks with these meanings
module _ {D : Type 0} (is_told : D → Type 0) (seen : D → List ℕ) (may_leave : D → List ℕ → Type 0) (moment : D → ℕ) (left_since : D → ℕ → List ℕ → Type 0) (faults : D → ℕ) where
  -- the room stands for these calls, and its file has their records, all of them on the disk
  abbrev pub Keeps : KeptRoom D → Calls → Type 0
  Keeps r h = IsKeeping stands_in (room_records r.object.room) is_told seen may_leave r.object r.file.disk r.file.end h

  -- a room that has stopped leaves its file alone
  abbrev pub Goes : Option Stop → KeptRoom D → KeptRoom D → Type 0
  Goes None old new = StopRaises new.stopped (faults old.file.disk) (faults new.file.disk)
  Goes (Some why) old new = (new.stopped ≡ Some why) × (new.file ≡ old.file)

  -- From one room to another so many calls more were made. Unless it has stopped, it keeps them too; and whenever a crash came meanwhile, the
  -- file has some first part of their records. It stops for a full file only where a record doesn't fit, and goes on only where all fit.
  pub record Since (old new : KeptRoom D) (more : Calls) : Type 0 where
    pub same_room : new.object.room ≡ old.object.room
    pub stands : (h : Calls) → stands_in old.object h → stands_in new.object (more ++ h)
    pub whole : new.stopped ≡ None → old.stopped ≡ None
    pub kept : new.stopped ≡ None → (h : Calls) → Keeps old h → Keeps new (more ++ h)
    pub crash : (h : Calls) → old.stopped ≡ None → Keeps old h → LeavesOnly moment left_since old.file.disk new.file.disk (HasPart (room_records old.object.room) h more)
    pub goes : Goes old.stopped old new
    pub fits : (h : Calls) → new.stopped ≡ None → Keeps old h → AllFit old.object.room h more
    pub full : (h : Calls) → old.stopped ≡ None → Keeps old h → (place : ℕ) → new.stopped ≡ Some (Full place) → FillsFile old.object.room h more

  -- The room of this number was opened from the file of a disk, by the first calls, and the others were made since. Where the disk goes by the model, all are
  -- kept, and their records fit; and whenever a crash came, if nothing was pending at first, the file has a first part of their records.
  pub record IsJournal (room : ℕ) (start : D) (first made : Calls) (told : Bool) (r : KeptRoom D) : Type 0 where
    pub stands : stands_in r.object (made ++ first)
    pub keeps : told ≡ true → Keeps r (made ++ first)
    pub crash : told ≡ true → Only (seen start) (may_leave start) → LeavesOnly moment left_since start r.file.disk (HasPart (room_records room) first made)
    pub fits : told ≡ true → AllFit room first made
    pub never_falls : faults start ≤ faults r.file.disk
