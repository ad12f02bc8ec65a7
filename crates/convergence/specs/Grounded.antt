-- What holds of every match of a room: its name is one, it began as its game begins with its seats and its seed, and it accepted at most
-- 4,096 actions, each of one of its seats, in its game's sheet, and such as may stand in a log; and what a viewer sees of it at any number is
-- plain, and is what is read of its value.
use Rattle.std.specs.Prelude.{◌≡◌, ◌≤◌, ℕ, List, [], ◌∷◌, false, length, Some, Ok}
use Rattle.game_sheet.specs.declared.sheet.Sheet.{Sheet}
use Rattle.game_trait.specs.Rules.{Rules}
use Rattle.phase_flow.specs.Action.{begin}
use Rattle.player_sight.specs.Plain.{ActFits}
use Rattle.player_sight.specs.PlainSnapshot.{IsPlain}
use Rattle.player_sight.specs.Seen.{snap_of}
use Rattle.player_sight.specs.SnapshotData.{snapshot_data}
use Rattle.player_sight.specs.declared.shown.Snapshot.{Snapshot}
use Rattle.reducer.specs.Accepted.{Accepted, AreActs}
use Rattle.room_history.specs.Match.{Match}
use Rattle.sight_reading.specs.SnapshotReading.{snapshot_in}
use Rattle.wire_json.specs.MatchText.{IsName}

-- each action may stand in a log
abbrev pub MayBeLogged : Sheet → List Accepted → Type 0
MayBeLogged sheet [] = Unit {0}
MayBeLogged sheet (a ∷ accepted) = ActFits sheet false a.act × MayBeLogged sheet accepted

pub record IsGrounded {X G : Type 0} (rules : X → Rules G) (room : ℕ) (m : Match X G) : Type 0 where
  pub name : IsName (record { room = room; serial = m.serial })
  pub least : (rules m.game).sheet.min_seats ≤ m.seats
  pub most : m.seats ≤ (rules m.game).sheet.max_seats
  pub begun : begin (rules m.game) m.seats m.seed ≡ Ok m.first
  pub acts : AreActs (rules m.game).sheet m.seats m.accepted
  pub logged : MayBeLogged (rules m.game).sheet m.accepted
  pub few : length m.accepted ≤ 4096

pub record CanBeRead {G : Type 0} (rules : Rules G) (s : Snapshot G) : Type 0 where
  pub plain : IsPlain rules s
  pub read : snapshot_in rules (snapshot_data rules.sheet (snap_of rules s)) ≡ Some s
