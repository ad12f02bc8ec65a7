use Rattle.std.proofs.Common.{◌≡◌, ◌++◌, ℕ, List, Some, length}
use Rattle.std.specs.Prelude.{IsSome}
use Rattle.board_links.specs.Pieces.{told_bytes}
use Rattle.board_links.proofs.system.write_whole.Given as goal

-- some bytes in front were taken, and the rest is still to come
abbrev pub invariant-loop-rest : goal.invariant-loop-rest
invariant-loop-rest g l =
    (front : List ℕ) × (l.bytes ≡ front ++ l.rest)
    × (IsSome (g.W.Write.contents l.fn.writer) → g.W.Write.contents l.writer ≡ Some (told_bytes (g.W.Write.contents l.fn.writer) ++ front))

abbrev pub decreases-loop-rest : goal.decreases-loop-rest
decreases-loop-rest g l = length l.rest
