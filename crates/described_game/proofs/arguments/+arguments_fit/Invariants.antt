-- The groups get fewer.
use Rattle.std.proofs.Common.{length}
use Rattle.described_game.proofs.arguments.+arguments_fit.Given as goal

abbrev pub decreases-arguments_fit : goal.decreases-arguments_fit
decreases-arguments_fit l = length l.groups.now
