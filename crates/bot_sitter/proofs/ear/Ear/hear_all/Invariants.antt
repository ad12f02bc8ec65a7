use Rattle.std.proofs.Common.{◌≡◌, IsSome, length}
use Rattle.std.specs.Prelude.{fold}
use Rattle.game_sheet.specs.Lines.{lines}
use Rattle.bot_sitter.specs.Hears.{clients_after}
use Rattle.bot_sitter.specs.Told.{told_line}
use Rattle.bot_sitter.proofs.ear.Ear.hear_all.Given as goal

abbrev pub invariant-loop-rest : goal.invariant-loop-rest
invariant-loop-rest g l =
    (l.self.game ≡ l.fn.self.game)
    × (fold told_line l.self.told (lines l.rest) ≡ fold told_line l.fn.self.told (lines l.bytes))
    × (clients_after (g.X.Game.rules l.fn.self.game) l.self.client (lines l.rest) ≡ clients_after (g.X.Game.rules l.fn.self.game) l.fn.self.client (lines l.bytes))
    × (IsSome l.fn.self.client → IsSome l.self.client)

abbrev pub decreases-loop-rest : goal.decreases-loop-rest
decreases-loop-rest g l = length l.rest
