use Rattle.std.proofs.Common.{◌+◌, ◌-◌, ◌*◌}
use Rattle.game_syntax.proofs.cursor.Reader.+expression.Given as goal

-- how deep it may still go, and at one depth from a body down to a value without operators
abbrev pub decreases-named : goal.decreases-named
decreases-named l = 16 * l.depth + 15

abbrev pub decreases-place : goal.decreases-place
decreases-place l = 16 * l.depth + 14

abbrev pub decreases-round : goal.decreases-round
decreases-round l = 16 * l.depth + 14

abbrev pub decreases-arguments : goal.decreases-arguments
decreases-arguments l = 16 * l.depth + 14

abbrev pub decreases-list : goal.decreases-list
decreases-list l = 16 * l.depth + 13

abbrev pub decreases-binder : goal.decreases-binder
decreases-binder l = 16 * l.depth + 13

abbrev pub decreases-body : goal.decreases-body
decreases-body l = 16 * l.depth + 12

abbrev pub decreases-expression : goal.decreases-expression
decreases-expression l = 16 * l.depth + 10

abbrev pub decreases-unary : goal.decreases-unary
decreases-unary l = 16 * l.depth + 3

abbrev pub decreases-primary : goal.decreases-primary
decreases-primary l = 16 * l.depth + 2

abbrev pub decreases-row : goal.decreases-row
decreases-row l = 16 * l.depth + (9 - l.level)
