-- What a viewer is shown of a match: its snapshot, with a log whose entries keep how many words their actions drew and show nobody.
use Rattle.std.specs.Prelude.{ℕ, zero, suc, ◌-◌, List, [], ◌∷◌, ◌++◌, length, false, Option}
use Rattle.game_sheet.specs.declared.act.Act.{Act}
use Rattle.game_sheet.specs.declared.act.Act.TheVariants.{Undo, Redo}
use Rattle.game_trait.specs.Rules.{Rules}
use Rattle.move_log.specs.declared.entry.Entry.{Entry}
use Rattle.phase_flow.specs.Reached.{Reached}
use Rattle.player_sight.specs.Seen.{seen, snap_of}
use Rattle.player_sight.specs.SnapshotData.{Snap}
use Rattle.player_sight.specs.declared.shown.Snapshot.{Snapshot}
use Rattle.reducer.specs.Accepted.{Accepted}
use Rattle.reducer.specs.Fold.{fold}
use Rattle.room_history.specs.Match.{Match}

-- how many words an action drew that led from one place in the words to another; an undo or a redo draws none
abbrev pub words_drawn : Act → ℕ → ℕ → ℕ
words_drawn Undo before after = 0
words_drawn Redo before after = 0
words_drawn act before after = after - before

-- the log's entry of an action that led from one table to another
abbrev pub entry_of : {G : Type 0} → Reached G → Reached G → ℕ → Accepted → Entry
entry_of before after number a = record {
  seat = a.seat;
  act = a.act;
  hidden = false;
  number = number;
  turn = before.ctx.turn;
  phase = before.ctx.phase;
  words = words_drawn a.act before.place after.place;
}

module _ {G : Type 0} (rules : Rules G) (first : Reached G) where
  -- the log of accepted actions, the oldest first
  abbrev pub log_from : List Accepted → List Entry
  log_from [] = []
  log_from (a ∷ accepted) = log_from accepted ++ entry_of (fold rules first accepted) (fold rules first (a ∷ accepted)) (length accepted) a ∷ []

module _ {G : Type 0} (rules : Rules G) (first : Reached G) (seat : Option ℕ) where
  -- what is seen once these actions are accepted
  abbrev pub view_at : List Accepted → Snapshot G
  view_at accepted = let now = fold rules first accepted in seen rules (length accepted) now.ctx now.g (log_from rules first accepted) seat

  abbrev pub snapshot_at : List Accepted → Snap
  snapshot_at accepted = snap_of rules (view_at accepted)

  -- what is seen then, and what was seen at so many numbers before, the latest first
  abbrev pub snapshots : ℕ → List Accepted → List Snap
  snapshots zero accepted = snapshot_at accepted ∷ []
  snapshots (suc many) [] = []
  snapshots (suc many) (a ∷ accepted) = snapshot_at (a ∷ accepted) ∷ snapshots many accepted

module _ {X G : Type 0} (rules : X → Rules G) where
  abbrev pub log_of : Match X G → List Entry
  log_of m = log_from (rules m.game) m.first m.accepted

  -- what the player of a seat sees of a match now, or a spectator
  abbrev pub snapshot : Match X G → Option ℕ → Snap
  snapshot m seat = snap_of (rules m.game) (view_at (rules m.game) m.first seat m.accepted)

  -- and at so many numbers before
  abbrev pub snapshots_of : Match X G → Option ℕ → ℕ → List Snap
  snapshots_of m seat many = snapshots (rules m.game) m.first seat many m.accepted
