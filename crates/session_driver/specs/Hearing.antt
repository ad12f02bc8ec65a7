-- A line is heard, and the calls of its request are made, whatever the rooms are.
use Rattle.std.specs.Prelude.{◌≡◌, ◌⊎◌, ◌≤◌, ◌+◌, ℕ, List, [], ◌∷◌, length, if◌then◌else◌, Option, Some, None}
use Rattle.any_game.specs.AnyRules.{named}
use Rattle.any_game.specs.GameKind.{GameKind}
use Rattle.dice_words.specs.Strip.{Strip}
use Rattle.game_hall.specs.Core.{Core, answered, asked, heard, is_again, starved}
use Rattle.game_hall.specs.Kept.{MayWantMemory}
use Rattle.game_hall.specs.Words.{drawn, next_action, seed_left_by, words_drawn_by}
use Rattle.game_hall.specs.declared.request.Request.{Request}
use Rattle.room_history.specs.declared.reply.RoomReply.{RoomReply}
use Rattle.wire_json.specs.ClientReading.{client_read}
use Rattle.session_driver.specs.Calls.{Did}
use Rattle.game_hall.specs.Counts.{accepts, refuses}
use Rattle.session_driver.specs.Counts.{counted}
use Rattle.session_driver.specs.declared.tally.Tally.{Tally}

-- what a line draws from: the words of the tape, and the seed that stands ready
pub record Draws : Type 0 where
  pub words : Strip
  pub seed : Option (List ℕ)

abbrev pub draws : Strip → Option (List ℕ) → Draws
draws words seed = record { words = words; seed = seed }

-- the core hears a line, which draws its words and its seed; or there was no memory to, and it has nothing but `again` to say
abbrev pub HearsLine : List ℕ → Core GameKind → Draws → Core GameKind → Draws → Type 0
HearsLine line core before after left =
    ((after ≡ heard named core (client_read line) (next_action before.words).left before.seed)
    × (left ≡ draws (drawn (words_drawn_by (client_read line) before.seed) (next_action before.words)) (seed_left_by (client_read line) before.seed)))
    ⊎ ((after ≡ starved core None) × (left ≡ draws (next_action before.words) before.seed))

-- the core hears a reply; or there was no memory to go on from it, as a row that is shown and a busy room may want
abbrev pub HearsReply : Core GameKind → RoomReply → Core GameKind → Type 0
HearsReply core told after = (after ≡ answered named core told)
    ⊎ ((after ≡ starved core None) × ((request : Request) × (core.request ≡ Some request) × MayWantMemory request told))

-- what was drawn is given back where the line is answered `again`
abbrev pub drawn_after : Core GameKind → Draws → Draws → Draws
drawn_after core before left = if is_again core.said then draws (next_action before.words) before.seed else left

-- a session's side of some rooms: what is known of them, and its core
pub record Side (S : Type 0) : Type 0 where
  pub rooms : S
  pub core : Core GameKind

abbrev pub side : {S : Type 0} → S → Core GameKind → Side S
side rooms core = record { rooms = rooms; core = core }

-- over rooms whose calls, by a pass, come to this
module _ {S : Type 0} (calls : S → ℕ → Did → S → Type 0) where
  -- the core's next call was made, and its reply heard
  abbrev pub Asks : Side S → Did → Side S → Type 0
  Asks s made t = (s.core.call ≡ Some (made.room, made.call)) × calls s.rooms s.core.pass made t.rooms × HearsReply (asked s.core) made.reply t.core

  -- calls of a request, the latest first
  abbrev pub Makes : Side S → List Did → Side S → Type 0
  Makes s [] t = t ≡ s
  Makes s (made ∷ earlier) t = (m : Side S) × Makes s earlier m × Asks m made t

  -- so many calls of a request were made, with what they count
  pub record MakesCounted (s : Side S) (n : ℕ) (tally : Tally) (t : Side S) : Type 0 where
    pub all : List Did
    pub made : Makes s all t
    pub many : length all ≡ n
    pub accepted : tally.accepted ≡ counted accepts all
    pub refused : tally.refused ≡ counted refuses all

  -- the calls of a request were made until there is no further one, at most one more than there are rooms
  pub record RunsOut (s : Side S) (tally : Tally) (t : Side S) : Type 0 where
    pub n : ℕ
    pub most : n ≤ s.core.rooms + 1
    pub makes : MakesCounted s n tally t
    pub done : t.core.call ≡ None
    pub closed : t.core.request ≡ None

  -- a line is heard, the calls of its request are made, and what it drew is given back after `again`
  pub record Hears (line : List ℕ) (s : Side S) (before : Draws) (t : Side S) (after : Draws) (tally : Tally) : Type 0 where
    pub core : Core GameKind
    pub left : Draws
    pub line_heard : HearsLine line s.core before core left
    pub runs : RunsOut (side s.rooms core) tally t
    pub draws_after : after ≡ drawn_after t.core before left
