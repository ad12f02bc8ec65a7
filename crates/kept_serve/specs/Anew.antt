-- What the file of a room is begun from when a server opens it: what it has, or the count of its matches alone.
use Rattle.std.specs.Prelude.{◌≡◌, ◌⊎◌, ◌≤◌, ◌+◌, ℕ, List, [], ◌∷◌, length, None}
use Rattle.any_game.specs.AnyRules.{any_rules}
use Rattle.kept_room.specs.Hosting.{HasJust}
use Rattle.kept_room.specs.Journal.{Calls}
use Rattle.kept_serve.specs.declared.opened_room.OpenedRoom.{OpenedRoom}
use Rattle.object_journal.specs.Keeping.{HasEither}
use Rattle.room_disk.specs.Disk.{LeavesOnly, Only}
use Rattle.room_history.specs.Room.{serials, standing}
use Rattle.room_journal.specs.Kept.{room_records}

-- over disks with these meanings
module _ {D : Type 0} (is_told : D → Type 0) (seen : D → List ℕ) (may_leave : D → List ℕ → Type 0) (moment : D → ℕ) (left_since : D → ℕ → List ℕ → Type 0) (faults : D → ℕ) where
  -- The file of this room had just the records of some calls, after which no match stands. Now it has just those of others, all of them on the disk, and is
  -- at most half as long: none stands after these either, and the room has made as many. If nothing was pending at first, a crash at any moment since has
  -- left the records of the old calls or those of the new.
  pub record IsAnew (room : ℕ) (disk start : D) : Type 0 where
    pub told : is_told start
    pub old : Calls
    pub new : Calls
    pub had : HasJust (seen disk) (room_records room old)
    pub has : HasJust (seen start) (room_records room new)
    pub durable : Only (seen start) (may_leave start)
    pub half : length (seen start) + length (seen start) ≤ length (seen disk)
    pub as_many : serials any_rules room new ≡ serials any_rules room old
    pub none_stood : standing any_rules room old ≡ None
    pub none_stands : standing any_rules room new ≡ None
    pub crash : Only (seen disk) (may_leave disk) → LeavesOnly moment left_since disk start (HasEither (room_records room old) (room_records room new))

  -- A room is opened from the disk that was given for it, or from that disk once its file was begun anew, where it goes by the model.
  abbrev pub Begins : ℕ → D → D → Type 0
  Begins room disk start = (start ≡ disk) ⊎ ((faults disk ≤ faults start) × (is_told disk → IsAnew room disk start))

  -- so was each of these rooms, which were opened from these disks
  abbrev pub AllBegin : List D → List (OpenedRoom D) → Type 0
  AllBegin [] [] = Unit {0}
  AllBegin (disk ∷ disks) (r ∷ rooms) = Begins r.room.object.room disk r.start.value × AllBegin disks rooms
  AllBegin disks rooms = ⊥
