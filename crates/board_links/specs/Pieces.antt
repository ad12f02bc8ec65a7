-- What the answers of a source and a sink say of the bytes that are left and of those that are held, where these are told.
use Rattle.std.specs.Prelude.{◌≡◌, ℕ, ◌≤◌, List, [], ◌++◌, length, take, drop, Option, Some, unwrap_or}
use Rattle.board_links.specs.declared.source.Piece.{Piece}
use Rattle.board_links.specs.declared.source.Piece.TheVariants.{Got, End, Failed}
use Rattle.board_links.specs.declared.sink.Put as sink
use Rattle.board_links.specs.declared.sink.Put.TheVariants as put
use Rattle.board_links.specs.Faults.{HasRisen}

-- the bytes that are told; where nothing is told, none
abbrev pub told_bytes : Option (List ℕ) → List ℕ
told_bytes told = unwrap_or told []

-- a piece has a byte, and no more than the room that was given
abbrev pub HasSize : Piece → ℕ → Type 0
HasSize (Got n) room = (1 ≤ n) × (n ≤ room)
HasSize End room = Unit {0}
HasSize Failed room = Unit {0}

-- the count of faults rose at a read that fails, and stayed at any other
abbrev pub ReadRaises : Piece → ℕ → ℕ → Type 0
ReadRaises (Got n) old new = new ≡ old
ReadRaises End old new = new ≡ old
ReadRaises Failed old new = HasRisen old new

-- with these bytes left: those of a piece come off the front, the end comes where there are none, and a fault takes none
abbrev pub Reads : Piece → List ℕ → List ℕ → Option (List ℕ) → Type 0
Reads (Got n) buf left after = (n ≤ length left) × (take n buf ≡ take n left) × (after ≡ Some (drop n left))
Reads End buf left after = (left ≡ []) × (after ≡ Some [])
Reads Failed buf left after = after ≡ Some left

-- the count of faults rose at a write that fails, and stayed at any other
abbrev pub WriteRaises : sink.Put → ℕ → ℕ → Type 0
WriteRaises put.Done old new = new ≡ old
WriteRaises put.Failed old new = HasRisen old new

-- with these bytes held: a piece goes to the end, and of a piece that fails some first part
abbrev pub Writes : sink.Put → List ℕ → List ℕ → Option (List ℕ) → Type 0
Writes put.Done piece held after = after ≡ Some (held ++ piece)
Writes put.Failed piece held after = (n : ℕ) × (after ≡ Some (held ++ take n piece))
