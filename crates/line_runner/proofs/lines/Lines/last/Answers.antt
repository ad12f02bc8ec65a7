use Rattle.std.proofs.Common.{◌≡◌, ◌≢◌, [], length, sym, ◌∙◌, arith}
use Rattle.std.proofs.lemmas.Bool.{eqb-true, eqb-false}
use Rattle.line_runner.specs.Reader.{coming}
use Rattle.line_runner.specs.ScriptLines.{Ended, no_lines, last_line}
use Rattle.line_runner.proofs.Steps.{at_end, at_last}
use Rattle.line_runner.proofs.lines.Lines.last.Goals as goal

pub returns-then-is_empty-clause-told : goal.returns-then-is_empty-clause-told
returns-then-is_empty-clause-told c =
    let none = rw (← c.self.view_is) at c.requires in
    let empty : length c.self.inside.begun.items ≡ 0 = omega (arith, eqb-true _ _ (sym c.is_empty.ensures ∙ c.if-is_empty.true), c.self.inside.begun.ok.0) in
    let ends : coming last_line c.args.self.now [] ≡ no_lines Ended = rw (← c.self.view_is) (at_end _ _ _ none empty) in
    (ends, sym ends)

pub returns-clause-told : goal.returns-clause-told
returns-clause-told c =
    let none = rw (← c.self.view_is) at c.requires in
    let some : length c.self.inside.begun.items ≢ 0 = λ e. eqb-false _ _ (sym c.is_empty.ensures ∙ c.if-is_empty.false) (omega (arith, c.self.inside.begun.ok.0, e)) in
    rw (← c.self.view_is, c.swap.ensures.x_after)
    (at_last _ _ _ none some)
