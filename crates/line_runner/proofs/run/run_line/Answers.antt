use Rattle.line_runner.proofs.Printing.{printed_on, stopped_on}
use Rattle.line_runner.proofs.run.run_line.Goals as goal

pub returns-in-Done-clause-ran : goal.returns-in-Done-clause-ran
returns-in-Done-clause-ran g c = λ s stands.
    printed_on g.I.Interpreter.play g.I.Interpreter.doing s c.args.line.now c.run_line.new.self _ _ c.as_slice.result.now c.clear.ensures.items c.as_slice.ensures.value
    (c.in-Ok.ensures s stands) (g.K.Sink.held c.args.sink.now) (g.K.Sink.held c.print.new.sink) c.in-Done.ensures.told

pub returns-in-Failed-clause-ran : goal.returns-in-Failed-clause-ran
returns-in-Failed-clause-ran g c = λ s stands.
    stopped_on g.I.Interpreter.play g.I.Interpreter.doing s c.args.line.now c.run_line.new.self _ _ c.as_slice.result.now c.clear.ensures.items c.as_slice.ensures.value
    (c.in-Ok.ensures s stands) (g.K.Sink.held c.args.sink.now) (g.K.Sink.held c.print.new.sink) c.in-Failed.ensures.told
