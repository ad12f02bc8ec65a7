use Rattle.std.proofs.Common.{◌≤◌, length}
use Rattle.game_syntax.proofs.lexer.past_blanks.Given as goal

abbrev pub invariant-loop-turn : goal.invariant-loop-turn
invariant-loop-turn l = (l.at ≤ l.end) × (l.end ≤ length l.text)
