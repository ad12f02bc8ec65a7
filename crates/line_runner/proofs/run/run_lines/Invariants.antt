use Rattle.std.proofs.Common.{◌≡◌, ◌-◌, ℕ, List, Option, IsSome}
use Rattle.board_links.specs.Pieces.{told_bytes}
use Rattle.line_runner.specs.Reader.{to_come}
use Rattle.line_runner.proofs.Underway.{Underway}
use Rattle.line_runner.proofs.run.run_lines.Given as goal

-- no count of faults rose, it stands for some state, and where the source tells, the transcript is
-- what was added and what is still to come; where the sink tells, it holds what was added
abbrev pub invariant-lines : goal.invariant-lines
invariant-lines g l = record {
  source_stays : g.S.Source.faults l.source ≡ g.S.Source.faults l.initial.source;
  sink_stays : g.K.Sink.faults l.sink ≡ g.K.Sink.faults l.initial.sink;
  stands : (s : g.I.Interpreter.State) × g.I.Interpreter.doing.Stands l.interpreter s;
  source_tells : IsSome (g.S.Source.left l.initial.source) → IsSome (g.S.Source.left l.source);
  underway : (begin : g.I.Interpreter.State) → g.I.Interpreter.doing.Stands l.initial.interpreter begin
      → IsSome (g.S.Source.left l.initial.source)
      → (held : Option (List ℕ)) × Underway g.I.Interpreter.play g.I.Interpreter.doing begin (told_bytes (g.S.Source.left l.initial.source)) (told_bytes (g.K.Sink.held l.initial.sink)) l.interpreter l.lines.given l.lines
      (told_bytes (g.S.Source.left l.source)) (to_come l.lines (told_bytes (g.S.Source.left l.source))) held × (IsSome (g.K.Sink.held l.initial.sink) → g.K.Sink.held l.sink ≡ held);
}

abbrev pub decreases-lines : goal.decreases-lines
decreases-lines g l = 1000000 - l.lines.given
