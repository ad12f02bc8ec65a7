-- What a line that is heard makes of the core's bench.
use Rattle.std.specs.Prelude.{◌≡◌, ◌⊎◌, ℕ, None}
use Rattle.any_game.specs.GameKind.{GameKind}
use Rattle.game_sheet.specs.MatchName.{Name}
use Rattle.game_hall.specs.Core.{Core}
use Rattle.game_hall.specs.declared.bench.Bench.{Bench}
use Rattle.game_hall.specs.declared.bench.Bench.TheVariants.{Absent, Idle, Wants}

-- there is none, or nothing is asked of it
abbrev pub IsAtRest : Bench → Type 0
IsAtRest Absent = Unit {0}
IsAtRest Idle = Unit {0}
IsAtRest other = ⊥

-- a takeover waits for it, and nothing is said yet
pub record Seeks (c : Core GameKind) : Type 0 where
  pub name : Name
  pub seat : ℕ
  pub wants : c.bench ≡ Wants name seat
  pub quiet : c.said ≡ None

-- the bench is as it was, or a takeover waits for it
abbrev pub TurnsToBench : Core GameKind → Core GameKind → Type 0
TurnsToBench before after = (after.bench ≡ before.bench) ⊎ Seeks after
