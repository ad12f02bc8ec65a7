-- Where a session is attached, by what its passes have seen.
use Rattle.std.specs.Prelude.{◌≡◌, ◌≤◌, ◌<◌, ℕ, Bool, List, length, Option, None, slice_index_or}
use Rattle.any_game.specs.AnyRules.{any_rules}
use Rattle.any_game.specs.GameKind.{GameKind}
use Rattle.game_hall.specs.Core.{Core}
use Rattle.hall_history.specs.Placed.{is_at}
use Rattle.room_history.specs.Presence.{is_attached}
use Rattle.session_driver.specs.Bench.{IsAtRest}
use Rattle.session_pool.specs.Passes.{Pass}

-- whether a pass is attached in its room
abbrev pub is_in : Pass → Bool
is_in p = is_attached any_rules p.desk.object p.seen p.number

-- the pass of the room in which the session is said to be is attached, and no other
abbrev pub AttachedBy : List Pass → Option ℕ → Type 0
AttachedBy passes at = (room : ℕ) (p : Pass) → room < length passes → is_in (slice_index_or passes room p) ≡ is_at at room

-- a core over 64 rooms at most that has heard a line: it has no call to make, and no request is open
pub record IsDone (rooms : ℕ) (core : Core GameKind) : Type 0 where
  pub rooms_are : core.rooms ≡ rooms
  pub few : rooms ≤ 64
  pub uncalled : core.call ≡ None
  pub closed : core.request ≡ None

-- a core between two lines: no request is open, no direct answer is unwritten, and nothing is asked of the bench
pub record IsIdle (rooms : ℕ) (core : Core GameKind) : Type 0 where
  pub done : IsDone rooms core
  pub written : core.said ≡ None
  pub rests : IsAtRest core.bench
