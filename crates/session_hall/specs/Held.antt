-- What a SessionHall holds, and when that is what the histories of its rooms give.
use Rattle.std.specs.Prelude.{◌≡◌, ◌≤◌, ◌<◌, ◌%◌, ◌^◌, ℕ, List, length, slice_index_or, Option, IsSome}
use Rattle.any_game.specs.AnyRules.{any_rules}
use Rattle.any_game.specs.GameKind.{GameKind}
use Rattle.any_game.specs.declared.any_g.AnyG.{AnyG}
use Rattle.dice_words.specs.Strip.{Strip, place_of, words_of}
use Rattle.dice_words.specs.Words.{words}
use Rattle.game_hall.specs.Core.{Core}
use Rattle.hall_history.specs.Hall.{Hall, core_of}
use Rattle.hall_history.specs.Rooms.{Rooms, history_of}
use Rattle.match_master.specs.Held.{Held, StandsFor}

pub record HeldHall : Type 0 where
  -- each room's book, room 0's first
  pub books : List (Held GameKind AnyG)
  -- each pass's core, pass 0's first
  pub cores : List (Core GameKind)
  pub tape : Strip
  -- the seed that the next match takes
  pub seed : Option (List ℕ)

-- a book is that of this room, and stands for its history
pub record IsBook (room : ℕ) (rooms : Rooms GameKind) (book : Held GameKind AnyG) : Type 0 where
  pub number : book.room ≡ room
  pub stands : StandsFor any_rules book (history_of rooms room)

-- there is a book for each room
pub record AreBooks (books : List (Held GameKind AnyG)) (rooms : Rooms GameKind) : Type 0 where
  pub count : length books ≡ length rooms
  pub each : (room : ℕ) (d : Held GameKind AnyG) → room < length rooms → IsBook room rooms (slice_index_or books room d)

-- the 32 passes of sessions are between two lines
pub record AreCores (cores : List (Core GameKind)) (h : Hall GameKind) : Type 0 where
  pub count : length cores ≡ 32
  pub each : (pass : ℕ) (d : Core GameKind) → pass < 32 → slice_index_or cores pass d ≡ core_of h pass

-- the next action draws the words of a tape that begin at this place
pub record IsTape (tape : ℕ → List ℕ) (place : ℕ) (strip : Strip) : Type 0 where
  pub live : IsSome strip.source
  pub gives : (at : ℕ) → words_of strip.source at 256 ≡ tape at
  pub stands_at : place_of strip ≡ place % 2 ^ 64

-- a SessionHall stands for a hall whose words are those of this tape
pub record StandsForHall (tape : ℕ → List ℕ) (held : HeldHall) (h : Hall GameKind) : Type 0 where
  pub least : 1 ≤ length h.rooms
  pub most : length h.rooms ≤ 64
  pub books_held : AreBooks held.books h.rooms
  pub cores_held : AreCores held.cores h
  pub tape_held : IsTape tape h.place held.tape
  pub seed_held : held.seed ≡ h.seed

-- the tape of a seed, from each place on
abbrev pub tape_of : List ℕ → ℕ → List ℕ
tape_of seed place = words seed 0 place 256

-- it stands for some hall
abbrev pub StandsForOne : HeldHall → Type 0
StandsForOne held = (h : Hall GameKind) × StandsForHall (λ place. words_of held.tape.source place 256) held h
