-- What a player is shown of a match, and its JSON value: the state number, the context, the value of the viewer's own
-- part of the game's state, and the log as the viewer sees it.
use Rattle.std.specs.Prelude.{ℕ, List, codes}
use Rattle.serde_json.specs.Data.{Data, object, member, no_members}
use Rattle.game_sheet.specs.declared.ctx.Ctx.{Ctx}
use Rattle.game_sheet.specs.declared.sheet.Sheet.{Sheet}
use Rattle.move_log.specs.declared.entry.Entry.{Entry}
use Rattle.sheet_json.specs.Seats.{natural}
use Rattle.player_sight.specs.EntryData.{log_data}
use Rattle.player_sight.specs.CtxData.{ctx_data}

pub record Snap : Type 0 where
  pub number : ℕ
  pub ctx : Ctx
  pub g : Data
  pub log : List Entry

abbrev pub snapshot_data : Sheet → Snap → Data
snapshot_data sheet s = object
    (member (codes "ctx") (ctx_data sheet s.ctx) (member (codes "g") s.g (member (codes "log") (log_data sheet s.log) (member (codes "number") (natural s.number) no_members))))
