-- What a match has come to: its state, context and map, with the seed of its words and the place of the next one.
use Rattle.std.specs.Prelude.{ℕ, List}
use Rattle.game_sheet.specs.declared.ctx.Ctx.{Ctx}
use Rattle.phase_flow.specs.declared.table.Table.{Table}
use Rattle.stage_map.specs.Active.{Map}

pub record Reached (G : Type 0) : Type 0 where
  pub g : G
  pub ctx : Ctx
  pub active : Map
  pub seed : List ℕ
  pub place : ℕ

abbrev pub table_of : {G : Type 0} → Reached G → Table G
table_of r = record { g = r.g; ctx = r.ctx; active = r.active }

-- a table of a match, with the seed of the match's words and a place
abbrev pub reached : {G : Type 0} → List ℕ → ℕ → Table G → Reached G
reached seed place t = record { g = t.g; ctx = t.ctx; active = t.active; seed = seed; place = place }
