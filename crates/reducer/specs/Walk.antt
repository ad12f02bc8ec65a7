-- The reducer as a machine of steps. Its states are what a match has come to, with the count of actions that led there, and its acts are
-- the actions of seats. It refuses an action after 4,096 others, one of a seat that the match doesn't have, and one that breaks a rule.
use Rattle.std.specs.Prelude.{◌+◌, ◌*◌, ◌≤◌, ℕ, ◌&&◌, nat_lt, if◌then◌else◌, Option, Some, None, Result, Ok, Err}
use Rattle.game_sheet.specs.declared.refusal.GameRule.{GameRule}
use Rattle.game_sheet.specs.declared.ids.TheConstants.{MOST_ACTIONS}
use Rattle.game_trait.specs.InSheet.{ActInSheet}
use Rattle.game_trait.specs.Rules.{Rules}
use Rattle.phase_flow.specs.Action.{once}
use Rattle.phase_flow.specs.IsSound.{IsSound as TableIsSound}
use Rattle.phase_flow.specs.Reached.{Reached, reached, table_of}
use Rattle.reducer.specs.Accepted.{Accepted}
use Rattle.reducer.specs.declared.checkpoint.Checkpoint.{Checkpoint}

-- what a match has come to at a checkpoint
abbrev pub reached_at : {G : Type 0} → Checkpoint G → Reached G
reached_at w = reached w.seed w.place w.table

-- the checkpoint of what a match has come to by so many actions
abbrev pub checkpoint : {G : Type 0} → ℕ → Reached G → Checkpoint G
checkpoint count r = record { table = table_of r; seed = r.seed; place = r.place; count = count }

abbrev pub next_checkpoint : {G : Type 0} → ℕ → Result (Reached G) GameRule → Option (Checkpoint G)
next_checkpoint count (Ok r) = Some (checkpoint count r)
next_checkpoint count (Err rule) = None

-- where an action leads from a checkpoint, unless it is refused
unfoldable pub walked : {G : Type 0} → Rules G → Checkpoint G → Accepted → Option (Checkpoint G)
walked rules w a =
    if nat_lt w.count MOST_ACTIONS && nat_lt a.seat w.table.ctx.seats then next_checkpoint (w.count + 1) (once rules (reached_at w) a.seat a.act) else None

-- a checkpoint fits a game where its table is sound with counts of at most so many moves as actions led there
pub record Fits {G : Type 0} (rules : Rules G) (w : Checkpoint G) : Type 0 where
  pub count : w.count ≤ MOST_ACTIONS
  pub table : TableIsSound rules.sheet w.count w.table.ctx w.table.active
  pub turn : w.table.ctx.turn ≤ 65 + 64 * w.count

-- an action fits a game where what it names is in the game's sheet
abbrev pub InSheet : {G : Type 0} → Rules G → Accepted → Type 0
InSheet rules a = ActInSheet rules.sheet a.act
