-- What an opened file is, and what each refusal says.
use Rattle.std.specs.Prelude.{◌≡◌, ◌<◌, ℕ, Bool, List, [], length, Option, None}
use Rattle.board_links.specs.Faults.{HasRisen}
use Rattle.room_object.specs.Entry.{Entry}
use Rattle.record_file.specs.Records.{HasRecords, open_records}
use Rattle.record_file.specs.Damage.{AllFollow, IsDamaged}
use Rattle.record_file.specs.Ready.{longest}
use Rattle.record_file.specs.declared.making_ready.NotReady.{NotReady}
use Rattle.record_file.specs.declared.making_ready.NotReady.TheVariants as not_ready
use Rattle.object_journal.specs.Keeping.{IsKeeping}
use Rattle.object_journal.specs.declared.replaying.OpenNo.{OpenNo}
use Rattle.object_journal.specs.declared.replaying.OpenNo.TheVariants as open_no

-- the object has come to a history by records alone, and keeps it: it has just the records of the file as it was, which had no others, and each of them
-- may follow those before it
pub record IsOpened {O C D : Type 0} (stands_for has_come : O → List (Entry C) → Type 0) (records : List (Entry C) → List (List ℕ)) (may_follow : List (List ℕ) → List ℕ → Bool) (is_told : D → Type 0) (seen : D → List ℕ) (may_leave : D → List ℕ → Type 0)
    (disk : D) (object : O) (disk_after : D) (end : ℕ) (broken : Option ℕ) (h : List (Entry C)) : Type 0 where
  pub whole : broken ≡ None
  pub came : has_come object h
  pub keeping : IsKeeping stands_for records is_told seen may_leave object disk_after end h
  pub had : HasRecords (seen disk) (records h)
  pub only : (others : List (List ℕ)) → HasRecords (seen disk) others → others ≡ records h
  pub follow : AllFollow may_follow [] (records h)

-- whatever the disk tells: the object stands for a history whose records end at this place, and each of them may follow those before it
pub record StandsOpen {O C : Type 0} (stands_for has_come : O → List (Entry C) → Type 0) (records : List (Entry C) → List (List ℕ)) (may_follow : List (List ℕ) → List ℕ → Bool) (object : O) (end : ℕ) (broken : Option ℕ) (h : List (Entry C)) : Type 0 where
  pub whole : broken ≡ None
  pub stands : stands_for object h
  pub came : has_come object h
  pub place : end ≡ length (open_records (records h))
  pub follow : AllFollow may_follow [] (records h)

-- why a file wasn't opened; one of at most one byte has no records, and is never damaged
abbrev pub IsRefused : {D : Type 0} → (List (List ℕ) → List ℕ → Bool) → (D → Type 0) → (D → List ℕ) → (D → ℕ) → D → D → OpenNo → Type 0
IsRefused may_follow is_told seen faults disk after open_no.DiskFault = HasRisen (faults disk) (faults after)
IsRefused may_follow is_told seen faults disk after open_no.Long = is_told disk → longest < length (seen disk)
IsRefused may_follow is_told seen faults disk after (open_no.Damaged place) = is_told disk → (1 < length (seen disk)) × IsDamaged may_follow (seen disk) place
IsRefused may_follow is_told seen faults disk after open_no.NoMemory = Unit {0}

abbrev pub reason_as : NotReady → OpenNo
reason_as not_ready.DiskFault = open_no.DiskFault
reason_as not_ready.Long = open_no.Long
reason_as not_ready.NoMemory = open_no.NoMemory
