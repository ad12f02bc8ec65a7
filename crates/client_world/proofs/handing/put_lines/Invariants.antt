use Rattle.std.proofs.Common.{◌≡◌, ◌++◌, length}
use Rattle.game_sheet.specs.Lines.{lines}
use Rattle.client_world.proofs.handing.put_lines.Given as goal

-- what is on the link, and the lines that are left
abbrev pub invariant-loop-rest : goal.invariant-loop-rest
invariant-loop-rest l = l.link ++ lines l.rest ≡ l.initial.link ++ lines l.bytes

abbrev pub decreases-loop-rest : goal.decreases-loop-rest
decreases-loop-rest l = length l.rest
