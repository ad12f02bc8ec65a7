-- What a file is once it is ready, and why it isn't.
use Rattle.std.specs.Prelude.{◌≡◌, ◌⊎◌, ◌<◌, ◌≤◌, ℕ, List, [], ◌∷◌, length}
use Rattle.board_links.specs.Faults.{HasRisen}
use Rattle.room_disk.specs.Disk.{Only}
use Rattle.record_file.specs.Records.{HasRecords}
use Rattle.record_file.specs.declared.making_ready.NotReady.{NotReady}
use Rattle.record_file.specs.declared.making_ready.NotReady.TheVariants.{DiskFault, Long, NoMemory}

abbrev pub longest : ℕ
longest = 268435456

abbrev pub IsFew : List ℕ → Type 0
IsFew c = length c ≤ 1

-- the bytes are the file's, or it had at most one and has begun anew, with one closed gate
abbrev pub IsWhole : List ℕ → List ℕ → Type 0
IsWhole file bytes = ((1 < length file) × (bytes ≡ file)) ⊎ (IsFew file × (bytes ≡ 0 ∷ []))

-- these bytes are what the disk has, all of it kept, and they have the records that the file had and no others
pub record IsReady (file bytes seen : List ℕ) (may_leave : List ℕ → Type 0) : Type 0 where
  pub same : bytes ≡ seen
  pub whole : IsWhole file bytes
  pub durable : Only seen may_leave
  pub some : 0 < length bytes
  pub few : length bytes ≤ longest
  pub keeps : (records : List (List ℕ)) → HasRecords file records → HasRecords bytes records
  pub had : (records : List (List ℕ)) → HasRecords bytes records → HasRecords file records

abbrev pub IsReason : Type 0 → ℕ → ℕ → ℕ → NotReady → Type 0
IsReason told count old new DiskFault = HasRisen old new
IsReason told count old new Long = told → longest < count
IsReason told count old new NoMemory = Unit {0}
