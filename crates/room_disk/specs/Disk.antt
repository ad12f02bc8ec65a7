-- What the calls of a disk say of its file, and what a crash may do to it between two syncs.
use Rattle.std.specs.Prelude.{◌≡◌, ◌⊎◌, ℕ, ◌+◌, ◌≤◌, min, max, List, ◌++◌, length, take, drop}
use Rattle.board_links.specs.declared.source.Piece.{Piece}
use Rattle.board_links.specs.declared.source.Piece.TheVariants as piece
use Rattle.board_links.specs.declared.sink.Put.{Put}
use Rattle.board_links.specs.declared.sink.Put.TheVariants as put
use Rattle.board_links.specs.Faults.{HasRisen}
use Rattle.room_disk.specs.declared.disk.Size.{Size}
use Rattle.room_disk.specs.declared.disk.Size.TheVariants as size

-- after a write of n bytes at a place that a crash cuts short: any bytes in the range and past the old end, any length from the old one
-- to the new one, and every other byte as it was
pub record Torn (place n : ℕ) (old new : List ℕ) : Type 0 where
  pub before : take (min place (length old)) new ≡ take place old
  pub after : drop (place + n) new ≡ drop (place + n) old
  pub no_shorter : length old ≤ length new
  pub no_longer : length new ≤ max (length old) (place + n)

-- each outcome of a crash now is an earlier outcome after a step
abbrev pub Follows : (List ℕ → List ℕ → Type 0) → (List ℕ → Type 0) → (List ℕ → Type 0) → Type 0
Follows step old new = (c : List ℕ) → new c → (d : List ℕ) × old d × step d c

-- no outcome of a crash is new
abbrev pub AddsNone : (List ℕ → Type 0) → (List ℕ → Type 0) → Type 0
AddsNone old new = (c : List ℕ) → new c → old c

-- a crash leaves this and nothing else
abbrev pub Only : List ℕ → (List ℕ → Type 0) → Type 0
Only file outcomes = (c : List ℕ) → outcomes c → c ≡ file

-- a crash leaves what it may have left before, or these bytes and no others
abbrev pub LeavesOr : List ℕ → (List ℕ → Type 0) → (List ℕ → Type 0) → Type 0
LeavesOr bytes old new = (c : List ℕ) → new c → old c ⊎ (c ≡ bytes)

-- Time goes on: a crash since t may have left what it may have left before, or what it may leave now.
pub record Elapses (before now : ℕ) (past since : ℕ → List ℕ → Type 0) (may_leave : List ℕ → Type 0) : Type 0 where
  pub later : before ≤ now
  pub nothing_else : (t : ℕ) (c : List ℕ) → t ≤ before → since t c → past t c ⊎ may_leave c
  pub keeps : (t : ℕ) (c : List ℕ) → t ≤ before → past t c → since t c

-- A crash at any moment since old leaves a file that has P.
pub record LeavesOnly {D : Type 0} (moment : D → ℕ) (left_since : D → ℕ → List ℕ → Type 0) (old new : D) (P : List ℕ → Type 0) : Type 0 where
  pub later : moment old ≤ moment new
  pub each : (c : List ℕ) → left_since new (moment old) c → P c
  -- for a run that began earlier
  pub before : (t : ℕ) (c : List ℕ) → t ≤ moment old → left_since new t c → left_since old t c ⊎ P c

-- what each answer says of the file

abbrev pub Sizes : Size → List ℕ → Type 0
Sizes (size.Is n) file = n ≡ length file
Sizes size.Failed file = Unit {0}

abbrev pub ReadsAt : Piece → ℕ → List ℕ → List ℕ → Type 0
ReadsAt (piece.Got n) place file buf = (place + n ≤ length file) × (take n buf ≡ take n (drop place file))
ReadsAt piece.End place file buf = length file ≤ place
ReadsAt piece.Failed place file buf = Unit {0}

-- a write within the file or at its end; of one that fails, any part may have been done
abbrev pub WritesAt : Put → ℕ → List ℕ → List ℕ → List ℕ → Type 0
WritesAt put.Done place bytes old new = place ≤ length old → new ≡ take place old ++ bytes ++ drop (place + length bytes) old
WritesAt put.Failed place bytes old new = Unit {0}

-- a sync that is done leaves nothing open
abbrev pub Settles : Put → List ℕ → List ℕ → (List ℕ → Type 0) → Type 0
Settles put.Done old new may_leave = (new ≡ old) × Only old may_leave
Settles put.Failed old new may_leave = Unit {0}

-- a file that was replaced has these bytes, all of them on the disk
abbrev pub Replaces : Put → List ℕ → List ℕ → (List ℕ → Type 0) → Type 0
Replaces put.Done bytes new may_leave = (new ≡ bytes) × Only bytes may_leave
Replaces put.Failed bytes new may_leave = Unit {0}

-- and of the count of faults
abbrev pub SizeRaises : Size → ℕ → ℕ → Type 0
SizeRaises (size.Is n) old new = new ≡ old
SizeRaises size.Failed old new = HasRisen old new
