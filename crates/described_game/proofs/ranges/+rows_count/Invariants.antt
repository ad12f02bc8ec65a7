-- The ranges get fewer.
use Rattle.std.proofs.Common.{length}
use Rattle.described_game.proofs.ranges.+rows_count.Given as goal

abbrev pub decreases-rows_count : goal.decreases-rows_count
decreases-rows_count l = length l.ranges.now
