-- Places of sessions: how a session begins at one, what its words are drawn from, and how it is left.
use Rattle.std.specs.Prelude.{◌≡◌, ◌<◌, ◌≤◌, ℕ, Bool, List, length, Option, Some, None}
use Rattle.board_links.specs.Doors.{Returned}
use Rattle.any_game.specs.GameKind.{GameKind}
use Rattle.dice_words.specs.Strip.{Strip}
use Rattle.game_hall.specs.Core.{fresh, with_bench}
use Rattle.link_rounds.specs.Gate.{WereServed}
use Rattle.room_desk.specs.History.{DeskId, SetUp}
use Rattle.room_history.specs.declared.call.RoomCall.{RoomCall}
use Rattle.room_history.specs.declared.call.RoomCall.TheVariants as call
use Rattle.room_history.specs.declared.reply.RoomReply.{RoomReply}
use Rattle.session_bench.specs.Wishing.{Rises, Seen}
use Rattle.session_driver.specs.Freeing.{Frees}
use Rattle.session_driver.specs.Hearing.{Side}
use Rattle.session_pool.specs.Passes.{Belong, Pass, number_of}
use Rattle.session_pool.specs.Placed.{AttachedBy, IsIdle}
use Rattle.session_pool.specs.Turn.{Calls, Stand, Turn, side_of, stand}
use Rattle.session_pool.specs.Watched.{AllBegin, History, seen_of}

-- where a session stands that has done nothing yet, over so many rooms, with these passes and words, and this pass at the bench
abbrev pub begins : ℕ → List Pass → Strip → Seen → Stand
begins rooms passes words bench = stand passes (with_bench (fresh (number_of passes) rooms)) words bench None

-- the words come from the stream of this number of the seed
abbrev pub DrawsFrom : List ℕ → ℕ → Strip → Type 0
DrawsFrom seed stream words = words.source ≡ Some (seed, stream)

-- One of so many places, without a session: its core has the passes' number and has done nothing. The next session draws from the stream of that
-- number of the seed. Its passes have seen all that the rooms stood for when they were opened.
pub record Rests (seed : List ℕ) (places : ℕ) (pasts : List History) (s : Stand) : Type 0 where
  pub own : number_of s.passes ≡ s.core.pass
  pub within : s.core.pass < places
  pub fresh_is : s.core ≡ with_bench (fresh s.core.pass s.core.rooms)
  pub draws : DrawsFrom seed s.core.pass s.words
  pub since : AllBegin (seen_of s.passes) pasts

-- One of so many places between two turns: there are 1 to 64 desks, and the passes are one for each, in their order, with the core's number; the
-- session is attached where its core is. Its pass at the bench is one of that desk. Its passes have seen all that the rooms stood for when they were
-- opened.
pub record Fits (desks : List SetUp) (bench : DeskId) (seed : List ℕ) (places : ℕ) (pasts : List History) (s : Stand) : Type 0 where
  pub some : 0 < length desks
  pub few : length desks ≤ 64
  pub belong : Belong desks s.core.pass s.passes
  pub within : s.core.pass < places
  pub idle : IsIdle (length desks) s.core
  pub attached : AttachedBy s.passes s.core.at
  pub at_bench : s.bench.desk ≡ bench
  pub draws : DrawsFrom seed s.core.pass s.words
  pub since : AllBegin (seen_of s.passes) pasts

-- ---- the end of a session

-- a last Detach, where the session is attached
abbrev pub Detaches : (RoomCall GameKind → Bool) → Side (List Pass) → Side (List Pass) → Type 0
Detaches may_refuse s t = (told : Option RoomReply) × Frees (Calls may_refuse) call.Detach s told t

-- a last Detach; a bot that sat down rises from the bench; and a core that has done nothing
abbrev pub Leaves : (RoomCall GameKind → Bool) → Stand → Stand → Type 0
Leaves may_refuse s t = (m : Side (List Pass)) × (p : Seen) × Detaches may_refuse (side_of s) m × Rises s.core.sat s.seat s.bench p
    × (t ≡ stand m.rooms (with_bench (fresh s.core.pass s.core.rooms)) s.words p None)

-- ---- the links of a door

-- Each link that came back, where the door tells them: all that it tells was told in turns of one session, from its first byte to its end, at one of
-- so many places, which had no session then and whose words come from the stream of its number of this seed; its passes had seen these histories, for
-- which the rooms stood when they were opened; and where it stood in the end is known.
abbrev pub AreServed : (RoomCall GameKind → Bool) → List ℕ → ℕ → List History → (Stand → Type 0) → Option (List Returned) → Type 0
AreServed may_refuse seed places pasts known told = WereServed (Turn may_refuse) (Leaves may_refuse) (Rests seed places pasts) known told
