-- The groups get fewer.
use Rattle.std.proofs.Common.{length}
use Rattle.described_game.proofs.checks.+width_of.Given as goal

abbrev pub decreases-width_of : goal.decreases-width_of
decreases-width_of l = length l.groups.now
