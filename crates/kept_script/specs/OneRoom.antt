-- What a session's call in the one room comes to, and its line.
use Rattle.std.specs.Prelude.{◌≡◌, ℕ, Bool, true, List, [], ◌∷◌}
use Rattle.any_game.specs.AnyRules.{any_rules}
use Rattle.any_game.specs.GameKind.{GameKind}
use Rattle.any_game.specs.declared.any_g.AnyG.{AnyG}
use Rattle.game_hall.specs.Core.{Core}
use Rattle.match_master.specs.Held.{Held, StandsFor, is_starved}
use Rattle.room_object.specs.Entry.{entry}
use Rattle.session_driver.specs.Calls.{Did}
use Rattle.session_driver.specs.Hearing.{Draws, Hears, side}
use Rattle.session_driver.specs.OfBooks.{CallsBook, RoomCalls}
use Rattle.session_driver.specs.declared.tally.Tally.{Tally}
use Rattle.kept_room.specs.Journal.{Calls, Since, stands_in}
use Rattle.kept_room.specs.declared.room.KeptRoom.{KeptRoom}
use Rattle.kept_script.specs.Growing.{line_calls}

abbrev pub number_of : Held GameKind AnyG → ℕ
number_of b = b.room

abbrev pub stands_for : Held GameKind AnyG → RoomCalls → Type 0
stands_for b h = StandsFor any_rules b h

abbrev pub always : Held GameKind AnyG → Bool
always b = true

abbrev pub books_of : {D : Type 0} → KeptRoom D → List (Held GameKind AnyG)
books_of r = r.object.book ∷ []

-- the room is the first, and stands for some calls
abbrev pub IsFirst : {D : Type 0} → KeptRoom D → Type 0
IsFirst r = (r.object.room ≡ 0) × ((h : Calls) × stands_in r.object h)

-- a call in books, of which there is one
abbrev pub calls_book : List (Held GameKind AnyG) → ℕ → Did → List (Held GameKind AnyG) → Type 0
calls_book books pass made after = CallsBook number_of stands_for always books pass made after

-- the call was made in the room as it is made in a room that keeps nothing, and was kept
abbrev pub CallsOne : {D : Type 0} → (D → Type 0) → (D → List ℕ) → (D → List ℕ → Type 0) → (D → ℕ) → (D → ℕ → List ℕ → Type 0) → (D → ℕ)
    → KeptRoom D → ℕ → Did → KeptRoom D → Type 0
CallsOne is_told seen may_leave moment left_since faults r pass made t =
    calls_book (books_of r) pass made (books_of t)
    × Since is_told seen may_leave moment left_since faults r t (entry pass made.call (is_starved made.reply) ∷ [])

module _ {D : Type 0} (is_told : D → Type 0) (seen : D → List ℕ) (may_leave : D → List ℕ → Type 0) (moment : D → ℕ) (left_since : D → ℕ → List ℕ → Type 0) (faults : D → ℕ) where
  -- a session's line was heard over books, of which there is one, and its calls were kept
  pub record HearsKept (old new : KeptRoom D) (line : List ℕ) (c : Core GameKind) (before : Draws) (d : Core GameKind) (after : Draws) (tally : Tally) : Type 0 where
    pub hears : Hears calls_book line (side (books_of old) c) before (side (books_of new) d) after tally
    pub since : Since is_told seen may_leave moment left_since faults old new (line_calls c.pass hears.runs.makes.all)
