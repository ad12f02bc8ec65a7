-- What a viewer is shown of a match: the state number and the context as they are, the viewer's own part of the game's state, and the
-- log with what the viewer may not see left out.
use Rattle.std.specs.Prelude.{ℕ, List, map, Option}
use Rattle.game_sheet.specs.declared.ctx.Ctx.{Ctx}
use Rattle.game_trait.specs.Rules.{Rules}
use Rattle.move_log.specs.Redact.{redact}
use Rattle.move_log.specs.declared.entry.Entry.{Entry}
use Rattle.player_sight.specs.SnapshotData.{Snap}
use Rattle.player_sight.specs.declared.shown.Snapshot.{Snapshot}

abbrev pub seen : {G : Type 0} → Rules G → ℕ → Ctx → G → List Entry → Option ℕ → Snapshot G
seen rules number ctx g log viewer = record { number = number; ctx = ctx; g = rules.view g ctx viewer; log = map (redact rules.sheet viewer) log }

-- the same with the game's state as its value
abbrev pub snap_of : {G : Type 0} → Rules G → Snapshot G → Snap
snap_of rules s = record { number = s.number; ctx = s.ctx; g = rules.value s.g; log = s.log }
