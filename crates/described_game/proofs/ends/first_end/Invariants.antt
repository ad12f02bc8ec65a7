-- What the rest of the ends says is what all of them say.
use Rattle.std.proofs.Common.{◌≡◌, drop}
use Rattle.game_code.specs.Setting.{setting_of}
use Rattle.described_game.specs.Hooks.{first_end}
use Rattle.described_game.proofs.ends.first_end.Given as goal

abbrev pub invariant-loop-code : goal.invariant-loop-code
invariant-loop-code l = first_end (drop l.code-index l.ends) (setting_of l.scene) l.table ≡ first_end l.ends (setting_of l.scene) l.table
