-- The rooms of a server: the desks of their passes, what is known of the rooms that come back from them, and what they have come to.
use Rattle.std.specs.Prelude.{◌≡◌, ◌+◌, ◌<◌, ℕ, Bool, false, List, [], ◌∷◌, ◌++◌, length, map, slice_index_or, Option, Some, None, if◌then◌else◌}
use Rattle.any_game.specs.AnyRules.{any_rules}
use Rattle.any_game.specs.GameKind.{GameKind}
use Rattle.any_game.specs.declared.any_g.AnyG.{AnyG}
use Rattle.match_master.specs.Held.{Held as Book, StandsFor}
use Rattle.room_desk.specs.History.{DeskId, Held}
use Rattle.room_history.specs.declared.call.RoomCall.{RoomCall}
use Rattle.room_object.specs.Entry.{Entry}
use Rattle.session_pool.specs.Rooms.{StandFor}

-- the calls of a room, the latest first
abbrev pub Calls : Type 0
Calls = List (Entry (RoomCall GameKind))

-- the desks of passes, in their order
abbrev pub desks_of : List (Held (RoomCall GameKind)) → List DeskId
desks_of passes = map (λ p. p.desk) passes

-- each row of passes lost its last one, and these are they, in the order of the rows
abbrev pub LoseLast : {Row : Type 0} → (Row → List (Held (RoomCall GameKind))) → List Row → List Row → List (Held (RoomCall GameKind)) → Type 0
LoseLast {Row} items before after taken = (k : ℕ) (r : Row) (p : Held (RoomCall GameKind)) → k < length before
    → items (slice_index_or before k r) ≡ items (slice_index_or after k r) ++ slice_index_or taken k p ∷ []

-- what is known of rooms of one kind: the number of each, the calls that it stands for, and whether it has stopped
pub record Hosted (B : Type 0) : Type 1 where
  pub number : B → ℕ
  pub stands_for : B → Calls → Type 0
  pub has_stopped : B → Bool

abbrev pub hosted : {B : Type 0} → (B → ℕ) → (B → Calls → Type 0) → (B → Bool) → Hosted B
hosted number stands_for has_stopped = record { number = number; stands_for = stands_for; has_stopped = has_stopped }

-- rooms stand for these histories, one by one
abbrev pub Stand : {B : Type 0} → (B → Calls → Type 0) → List B → List Calls → Type 0
Stand stands_for rooms histories = StandFor stands_for rooms histories

-- rooms are numbered from one on
abbrev pub Numbered : {B : Type 0} → (B → ℕ) → ℕ → List B → Type 0
Numbered number k [] = Unit {0}
Numbered number k (room ∷ rooms) = (number room ≡ k) × Numbered number (k + 1) rooms

-- the calls of a room that stands for these; none where it has stopped
abbrev pub row_of : {B : Type 0} → Hosted B → B → Calls → Option Calls
row_of known room h = if known.has_stopped room then None else Some h

-- those of rooms, one by one
abbrev pub rows_of : {B : Type 0} → Hosted B → List B → List Calls → List (Option Calls)
rows_of known (room ∷ rooms) (h ∷ histories) = row_of known room h ∷ rows_of known rooms histories
rows_of known rooms histories = []

-- rooms that keep nothing are books, which never stop
abbrev pub plain : Hosted (Book GameKind AnyG)
plain = hosted (λ book. book.room) (λ book h. StandsFor any_rules book h) (λ book. false)
