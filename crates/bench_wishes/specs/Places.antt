-- Whether two seats are one.
use Rattle.std.specs.Prelude.{ℕ, ◌==◌, ◌&&◌, Bool}
use Rattle.game_sheet.specs.MatchName.{Name}

abbrev pub is_at : Name → ℕ → Name → ℕ → Bool
is_at name seat other at = (other.room == name.room) && ((other.serial == name.serial) && (at == seat))
