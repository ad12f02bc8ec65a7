-- What holds while a file is read: nothing has changed, and what was read is the front of the file.
use Rattle.std.proofs.Common.{◌≡◌, ℕ, List, length, take}
use Rattle.room_disk.specs.Disk.{AddsNone, LeavesOnly}

pub record Reading {D : Type 0} (is_told : D → Type 0) (seen : D → List ℕ) (may_leave : D → List ℕ → Type 0) (moment : D → ℕ) (left_since : D → ℕ → List ℕ → Type 0) (start now : D) (items : List ℕ) : Type 0 where
  pub told : is_told now
  pub same : seen now ≡ seen start
  pub leaves : LeavesOnly moment left_since start now (may_leave start)
  pub adds : AddsNone (may_leave start) (may_leave now)
  pub front : items ≡ take (length items) (seen start)
