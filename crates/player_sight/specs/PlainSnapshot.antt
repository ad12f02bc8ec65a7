-- What may stand in a snapshot that reads back: a state that is the game's own, a context and entries that are plain, and a number of
-- its type; and which logs give plain entries once they are redacted.
use Rattle.std.specs.Prelude.{◌≤◌, IsTrue, length}
use Rattle.std.specs.List.{AllByRecursion}
use Rattle.game_sheet.specs.declared.sheet.Sheet.{Sheet}
use Rattle.game_trait.specs.Rules.{Rules}
use Rattle.move_log.specs.declared.entry.Entry.{Entry}
use Rattle.player_sight.specs.Plain.{IsIn, ActFits, IsPlainCtx, IsPlainEntry}
use Rattle.player_sight.specs.declared.shown.Snapshot.{Snapshot}

pub record IsPlain {G : Type 0} (rules : Rules G) (s : Snapshot G) : Type 0 where
  pub number : s.number ≤ 4294967295
  pub ctx : IsPlainCtx rules.sheet s.ctx
  pub own : IsTrue (rules.own s.g)
  pub log : AllByRecursion (IsPlainEntry rules.sheet) s.log

-- an entry that is plain but for its count of words, which no viewer sees
pub record MayBeShown (sheet : Sheet) (entry : Entry) : Type 0 where
  pub seat : entry.seat ≤ 255
  pub act : ActFits sheet entry.hidden entry.act
  pub number : entry.number ≤ 4294967295
  pub turn : entry.turn ≤ 4294967295
  pub phase : IsIn (length sheet.phases) entry.phase
