-- The groups get fewer.
use Rattle.std.proofs.Common.{length}
use Rattle.described_game.proofs.checks.+most_rows.Given as goal

abbrev pub decreases-most_rows : goal.decreases-most_rows
decreases-most_rows l = length l.groups.now
