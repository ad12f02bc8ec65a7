-- The ranges get fewer.
use Rattle.std.proofs.Common.{length}
use Rattle.described_game.proofs.ranges.+push_ranges.Given as goal

abbrev pub decreases-push_ranges : goal.decreases-push_ranges
decreases-push_ranges l = length l.ranges.now
