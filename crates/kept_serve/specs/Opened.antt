-- Rooms that were opened from their journals.
use Rattle.std.specs.Prelude.{◌≡◌, ℕ, true, false, List, [], ◌∷◌, map, All, Option, option_map, slice_get, IfErr, IfOk, Result}
use Rattle.any_game.specs.AnyRules.{any_rules}
use Rattle.hosted_room.specs.Calls.{NobodyIn}
use Rattle.kept_room.specs.Journal.{Calls}
use Rattle.kept_room.specs.Opened.{IsOpenedRoom}
use Rattle.kept_serve.specs.Anew.{Begins}
use Rattle.kept_serve.specs.declared.opened_room.OpenedRoom.{OpenedRoom}
use Rattle.kept_serve.specs.declared.opening.Job.{Job}
use Rattle.object_journal.specs.Opening.{IsRefused}
use Rattle.object_journal.specs.declared.replaying.OpenNo.{OpenNo}
use Rattle.room_journal.specs.Kept.{may_follow}
use Rattle.session_pool.specs.Rooms.{numbers}

abbrev pub room_of : {D : Type 0} → OpenedRoom D → ℕ
room_of r = r.room.object.room

module _ {D : Type 0} (is_told : D → Type 0) (seen : D → List ℕ) (may_leave : D → List ℕ → Type 0) (moment : D → ℕ) (left_since : D → ℕ → List ℕ → Type 0) (faults : D → ℕ) where
  -- The room of this number was opened from the file of a disk, and stands for some first calls, after which no pass below that number is attached there.
  -- Where the disk goes by the model, these have just the file's records.
  pub record IsOpened (passes room : ℕ) (r : OpenedRoom D) : Type 0 where
    pub first : Calls
    pub opened : IsOpenedRoom is_told seen may_leave moment left_since faults room r.start.value first false r.room
    pub alone : NobodyIn any_rules passes room first
    pub told : is_told r.start.value → IsOpenedRoom is_told seen may_leave moment left_since faults room r.start.value first true r.room

  -- the room of a job was, from its disk, whose file may have begun anew
  abbrev pub IsOpenedFrom : ℕ → Job D → OpenedRoom D → Type 0
  IsOpenedFrom passes job r = IsOpened passes job.room r × Begins is_told seen may_leave moment left_since faults job.room job.disk r.start.value

  -- or its file was refused
  abbrev pub IsRefusedFrom : Job D → OpenNo → Type 0
  IsRefusedFrom job why = (after : D) × IsRefused (may_follow job.room) is_told seen faults job.disk after why

  -- what came of each job
  abbrev pub AreOpenedFrom : ℕ → List (Job D) → List (Result (OpenedRoom D) OpenNo) → Type 0
  AreOpenedFrom passes [] [] = Unit {0}
  AreOpenedFrom passes (job ∷ jobs) (result ∷ results) = IfOk result (IsOpenedFrom passes job) × IfErr result (IsRefusedFrom job) × AreOpenedFrom passes jobs results
  AreOpenedFrom passes jobs results = ⊥

  -- so many rooms were opened, numbered from 0
  pub record AreOpened (passes rooms : ℕ) (all : List (OpenedRoom D)) : Type 0 where
    pub numbered : map room_of all ≡ numbers 0 rooms
    pub each : All (λ r. IsOpened passes (room_of r) r) all

-- by its number, the disk that each of these rooms was opened from
abbrev pub starts_at : {D : Type 0} → List (OpenedRoom D) → ℕ → Option D
starts_at rooms room = option_map (λ r. r.start.value) (slice_get rooms room)
