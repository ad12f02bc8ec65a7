use Rattle.std.proofs.Common.{◌+◌, ◌*◌}
use Rattle.game_syntax.proofs.cursor.Reader.+statement.Given as goal

-- how deep it may still go, and at one depth from a block down to a statement
abbrev pub decreases-block : goal.decreases-block
decreases-block l = 8 * l.depth + 4

abbrev pub decreases-statements : goal.decreases-statements
decreases-statements l = 8 * l.depth + 3

abbrev pub decreases-statement : goal.decreases-statement
decreases-statement l = 8 * l.depth + 2

abbrev pub decreases-conditional : goal.decreases-conditional
decreases-conditional l = 8 * l.depth + 1

abbrev pub decreases-repeated : goal.decreases-repeated
decreases-repeated l = 8 * l.depth + 1
