-- A room that was opened from the file of a disk.
use Rattle.std.specs.Prelude.{◌≡◌, ℕ, Bool, true, false, List, [], None}
use Rattle.record_file.specs.Damage.{AllFollow}
use Rattle.record_file.specs.Records.{HasRecords}
use Rattle.room_journal.specs.Coming.{ReadsBack}
use Rattle.room_journal.specs.Kept.{may_follow, room_records}
use Rattle.kept_room.specs.Journal.{Calls, IsJournal, stands_in}
use Rattle.kept_room.specs.declared.room.KeptRoom.{KeptRoom}

module _ {D : Type 0} (is_told : D → Type 0) (seen : D → List ℕ) (may_leave : D → List ℕ → Type 0) (moment : D → ℕ) (left_since : D → ℕ → List ℕ → Type 0) (faults : D → ℕ) where
  -- the room of this number was opened from the file of a disk by these calls, which the file's records make, and the file had no others
  pub record IsOpenedRoom (room : ℕ) (start : D) (first : Calls) (told : Bool) (r : KeptRoom D) : Type 0 where
    pub numbered : r.object.room ≡ room
    pub whole : r.stopped ≡ None
    pub stands : stands_in r.object first
    pub journal : IsJournal is_told seen may_leave moment left_since faults room start first [] told r
    pub had : told ≡ true → HasRecords (seen start) (room_records room first)
    pub only : told ≡ true → (others : List (List ℕ)) → HasRecords (seen start) others → others ≡ room_records room first
    pub reads : ReadsBack room first
    pub follow : AllFollow (may_follow room) [] (room_records room first)

  -- it was, and where the disk goes by the model, these very calls make the records that the file had
  abbrev pub IsOpenedAs : ℕ → D → Calls → KeptRoom D → Type 0
  IsOpenedAs room start first r = IsOpenedRoom room start first false r × (is_told start → IsOpenedRoom room start first true r)
