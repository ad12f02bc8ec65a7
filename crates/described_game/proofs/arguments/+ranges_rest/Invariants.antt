-- The ranges get fewer.
use Rattle.std.proofs.Common.{length}
use Rattle.described_game.proofs.arguments.+ranges_rest.Given as goal

abbrev pub decreases-ranges_rest : goal.decreases-ranges_rest
decreases-ranges_rest l = length l.ranges.now
