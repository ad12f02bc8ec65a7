-- How a session is told of what it is shown: its first snapshot whole, each later one by a line on the action that led to it.
use Rattle.std.specs.Prelude.{ℕ, ◌==◌, List, [], ◌∷◌, if◌then◌else◌, nat_lt, Option, Some, None}
use Rattle.serde_json.specs.Data.{Data, null}
use Rattle.game_sheet.specs.MatchName.{Name}
use Rattle.game_sheet.specs.declared.sheet.Sheet.{Sheet}
use Rattle.move_log.specs.declared.entry.Entry.{Entry}
use Rattle.player_sight.specs.CtxData.{ctx_data}
use Rattle.player_sight.specs.EntryData.{entry_data}
use Rattle.player_sight.specs.SnapshotData.{Snap, snapshot_data}
use Rattle.wire_json.specs.declared.protocol.Protocol.{Protocol}
use Rattle.wire_json.specs.declared.protocol.Protocol.TheVariants.{One, Two}
use Rattle.player_sight.specs.Change.{put_part, gone_part}
use Rattle.wire_json.specs.declared.server.ServerMsg.{ServerMsg}
use Rattle.wire_json.specs.declared.server.ServerMsg.TheVariants.{Sync, Update, Change}
use Rattle.game_sheet.specs.Viewer.{Viewer, seat_of}

-- the last entry of a log
abbrev pub newest_entry : Sheet → List Entry → Data
newest_entry sheet [] = null
newest_entry sheet (entry ∷ []) = entry_data sheet entry
newest_entry sheet (entry ∷ next ∷ log) = newest_entry sheet (next ∷ log)

-- the message of the action that led from one snapshot to the next
abbrev pub update_message : Protocol → Sheet → Snap → Snap → ServerMsg
update_message One sheet before s = Update (ctx_data sheet s.ctx) (newest_entry sheet s.log) s.g s.number
update_message Two sheet before s =
    Change (put_part (ctx_data sheet before.ctx) (ctx_data sheet s.ctx)) (newest_entry sheet s.log) (gone_part before.g s.g) (put_part before.g s.g) s.number

-- a snapshot that was shown, and the message that tells of it
pub record Showing : Type 0 where
  pub snapshot : Snap
  pub message : ServerMsg

module _ (name : Name) (sheet : Sheet) (viewer : Viewer) (protocol : Protocol) where
  -- of the snapshots that a session was shown, the latest first
  abbrev pub showings : List Snap → List Showing
  showings [] = []
  showings (s ∷ []) = record { snapshot = s; message = Sync name (seat_of viewer) protocol (snapshot_data sheet s) } ∷ []
  showings (s ∷ before ∷ sight) = record { snapshot = s; message = update_message protocol sheet before s } ∷ showings (before ∷ sight)

-- those of numbers above n, and the others
abbrev pub showings_above : ℕ → List Showing → List Showing
showings_above n [] = []
showings_above n (t ∷ shown) = if nat_lt n t.snapshot.number then t ∷ showings_above n shown else []

abbrev pub showings_up_to : ℕ → List Showing → List Showing
showings_up_to n [] = []
showings_up_to n (t ∷ shown) = if nat_lt n t.snapshot.number then showings_up_to n shown else t ∷ shown

-- the snapshot of number n
abbrev pub snapshot_of_number : ℕ → List Showing → Option Snap
snapshot_of_number n [] = None
snapshot_of_number n (t ∷ shown) = if t.snapshot.number == n then Some t.snapshot else snapshot_of_number n shown
