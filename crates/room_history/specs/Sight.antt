-- What a session was shown is what its match came to, number by number, from the session's beginning on. It stays so after the session has
-- ended and after the match was removed.
use Rattle.std.specs.Prelude.{◌≡◌, ◌++◌, ℕ, List, Some}
use Rattle.game_trait.specs.Rules.{Rules}
use Rattle.reducer.specs.Accepted.{Accepted}
use Rattle.room_object.specs.Entry.{Entry}
use Rattle.room_history.specs.Match.{Match}
use Rattle.room_history.specs.Room.{match_of}
use Rattle.room_history.specs.Session.{Session}
use Rattle.room_history.specs.Shown.{snapshots}
use Rattle.game_sheet.specs.Viewer.{seat_of}
use Rattle.room_history.specs.declared.call.RoomCall.{RoomCall}

pub record SeesMatch {X G : Type 0} (rules : X → Rules G) (room : ℕ) (h : List (Entry (RoomCall X))) (s : Session) : Type 0 where
  -- the match of the session's name
  pub m : Match X G
  pub is : match_of rules room h s.name.serial ≡ Some m
  pub name : s.name ≡ record { room = room; serial = m.serial }
  pub sheet : s.sheet ≡ (rules m.game).sheet
  -- the actions that were accepted when the session was shown its latest snapshot, and those that came later
  pub accepted : List Accepted
  pub later : List Accepted
  pub in_order : m.accepted ≡ later ++ accepted
  -- that snapshot, and those of so many numbers before
  pub many : ℕ
  pub sight : s.sight ≡ snapshots (rules m.game) m.first (seat_of s.viewer) many accepted
