-- How the value of a snapshot is read back: each member in its form and no other, the state of the game by the game's own reading.
use Rattle.std.specs.Prelude.{ℕ, List, [], ◌∷◌, codes, Option, Some, option_and_then}
use Rattle.std.specs.Result.{result_ok}
use Rattle.serde_json.specs.Data.{Data, Items}
use Rattle.serde_json.specs.Find.{get}
use Rattle.json_tree.specs.Fields.{list_in, read_each}
use Rattle.game_sheet.specs.declared.ctx.Ctx.{Ctx}
use Rattle.game_sheet.specs.declared.sheet.Sheet.{Sheet}
use Rattle.game_trait.specs.Rules.{Rules}
use Rattle.move_log.specs.declared.entry.Entry.{Entry}
use Rattle.sight_reading.specs.CtxReading.{ctx_in}
use Rattle.sight_reading.specs.EntryReading.{entry_in}
use Rattle.sight_reading.specs.Reading.{◌>>=◌, natural_at, of_members}
use Rattle.player_sight.specs.declared.shown.Snapshot.{Snapshot}

abbrev pub entries_from : Sheet → Items → Option (List Entry)
entries_from sheet ds = read_each (entry_in sheet) ds

abbrev pub log_in : Sheet → Option Data → Option (List Entry)
log_in sheet found = option_and_then (entries_from sheet) (result_ok (list_in found))

-- the snapshot of these parts, with the log that a value has; and with its state too
abbrev pub from_state : {G : Type 0} → Sheet → Data → ℕ → Ctx → G → Option (Snapshot G)
from_state sheet d number ctx g = log_in sheet (get (codes "log") d) >>= λ log. Some (record { number = number; ctx = ctx; g = g; log = log })

abbrev pub from_ctx : {G : Type 0} → Rules G → Sheet → Data → ℕ → Ctx → Option (Snapshot G)
from_ctx rules sheet d number ctx = option_and_then rules.read (get (codes "g") d) >>= λ g. from_state sheet d number ctx g

unfoldable pub snapshot_in : {G : Type 0} → Rules G → Data → Option (Snapshot G)
snapshot_in rules d = of_members (codes "ctx" ∷ codes "g" ∷ codes "log" ∷ codes "number" ∷ []) d
    (natural_at 4294967295 (get (codes "number") d) >>= λ number. option_and_then (ctx_in rules.sheet) (get (codes "ctx") d) >>= λ ctx.
    from_ctx rules rules.sheet d number ctx)
