use Rattle.std.proofs.Common.{◌≡◌}
use Rattle.std.specs.Prelude.{IsSome}
use Rattle.board_links.proofs.system.write_some.Given as goal

abbrev pub invariant-loop : goal.invariant-loop
invariant-loop g l = IsSome (g.W.Write.contents l.fn.writer) → g.W.Write.contents l.writer ≡ g.W.Write.contents l.fn.writer
