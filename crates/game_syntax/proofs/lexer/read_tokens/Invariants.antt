use Rattle.std.proofs.Common.{◌≤◌, length}
use Rattle.game_syntax.proofs.lexer.read_tokens.Given as goal

abbrev pub invariant-loop-turn : goal.invariant-loop-turn
invariant-loop-turn l = l.at ≤ length l.text
