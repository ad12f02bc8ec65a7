-- How a session goes on from one entry of its room to the next.
use Rattle.std.specs.Prelude.{◌≡◌, List, ◌++◌}
use Rattle.room_history.specs.Piece.{Piece, State, Open, Ended, Closed, state_of, without_marks}
use Rattle.room_history.specs.Session.{Session, stream_of}

-- a first part of a list
abbrev pub IsFirstPart : {A : Type 0} → List A → List A → Type 0
IsFirstPart {A = A} part whole = (rest : List A) × (whole ≡ part ++ rest)

abbrev pub IsOpen : State → Type 0
IsOpen Open = Unit {0}
IsOpen (Ended why) = ⊥
IsOpen Closed = ⊥

-- a stream, whose latest piece comes first, grows at its end alone; once it has ended, it gains marks alone
pub record Grows (old new : List Piece) : Type 0 where
  pub more : List Piece
  pub is : new ≡ more ++ old
  pub was_open : IsOpen (state_of new) → IsOpen (state_of old)
  pub stops : (IsOpen (state_of old) → ⊥) → without_marks new ≡ without_marks old

-- the same match is looked at by the same viewer in the same protocol
pub record SameView (s t : Session) : Type 0 where
  pub name : t.name ≡ s.name
  pub sheet : t.sheet ≡ s.sheet
  pub viewer : t.viewer ≡ s.viewer
  pub protocol : t.protocol ≡ s.protocol

-- a session goes on as the one that it was: its stream grows, and what it was sent grows at its end
pub record GoesOn (s t : Session) : Type 0 where
  pub view : SameView s t
  pub stream : Grows (stream_of s) (stream_of t)
  pub sent : IsFirstPart s.sent t.sent
