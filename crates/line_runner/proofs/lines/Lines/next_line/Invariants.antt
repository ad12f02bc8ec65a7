use Rattle.std.proofs.Common.{◌-◌, length}
use Rattle.line_runner.proofs.lines.Lines.next_line.Given as goal
use Rattle.line_runner.proofs.Progress.{Keeps}

abbrev pub invariant-loop-next : goal.invariant-loop-next
invariant-loop-next g l = Keeps (g.S.Source.left l.initial.source) (g.S.Source.left l.source) (g.S.Source.faults l.initial.source) (g.S.Source.faults l.source) l.initial.self l.self

abbrev pub decreases-loop-next : goal.decreases-loop-next
decreases-loop-next g l = 65536 - length l.self.begun
