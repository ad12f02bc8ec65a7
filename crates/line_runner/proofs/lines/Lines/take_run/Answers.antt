use Rattle.std.proofs.Common.{◌≢◌, ◌≤◌, ◌<◌, ◌+◌, length, sym, arith}
use Rattle.line_runner.specs.ScriptLines.{most_lines}
use Rattle.line_runner.proofs.Steps.{after_run}
use Rattle.line_runner.proofs.lines.Lines.take_run.Goals as goal

pub returns-in-Ok-clause-told : goal.returns-in-Ok-clause-told
returns-in-Ok-clause-told c last more =
    let run = rw (← c.self.view_is) at c.requires in
    let few : c.self.inside.given < 1000000 = run.3 in
    let fits : length c.self.inside.begun.items + c.args.run ≤ 65536 = run.4 in
    let room : c.self.inside.given ≢ most_lines = λ e. omega (arith, few, e) in
    rw (← c.self.view_is, c.in-Ok.ensures.items, c.front.ensures, c.skip.ensures)
    (sym (after_run last _ _ _ more c.args.run room run.1 run.2 fits))
