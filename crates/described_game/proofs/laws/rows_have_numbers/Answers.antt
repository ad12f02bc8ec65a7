-- By recursion on the ranges.
use Rattle.described_game.proofs.RowLaws.{all_rows}
use Rattle.described_game.proofs.laws.rows_have_numbers.Goals as goal

pub returns : goal.returns
returns c = all_rows c.args.ranges.now c.requires
