-- One number more is looked at, and what is gathered over a span is what the expression means.
use Rattle.std.proofs.Common.{◌≡◌, ◌∷◌, ℕ, ℤ, pos, Option, Some, None, sym, ap, ◌∙◌}
use Rattle.game_code.proofs.GatherLemmas.{first_more, together_more}
use Rattle.game_code.specs.Meaning.{value_of, values_of}
use Rattle.game_code.specs.Setting.{setting_of}
use Rattle.game_code.specs.declared.expression.Expression.{Expression}
use Rattle.slot_values.specs.Spans.{count_between, gathered, greatest_with, sum_with}
use Rattle.slot_values.specs.Values.{number_of, whole}
use Rattle.game_code.proofs.evaluates.+evaluate.Goals as goal

pub evaluate-returns-in-Gather : goal.evaluate-returns-in-Gather
evaluate-returns-in-Gather t c =
    let s = setting_of c.args.sight.now.scene.now in
    let table = c.args.sight.now.table.now in
    let work = c.args.sight.now.work.now in
    let locals = values_of c.args.locals.now in
    let gather = c.in-Gather.gather in
    let most = c.in-Gather.most in
    let body = λ (i : Option ℤ). value_of c.in-Gather.body.value s table work (whole i ∷ locals) in
    let last = number_of (value_of c.in-Gather.to.value s table work locals) in
    c.gathered_over.ensures
    ∙ ap (λ (e : Expression). gathered gather (λ i. value_of e s table work (whole i ∷ locals)) c.count_between-count.result c.number-first.result) c.deref-in-Gather-3.ensures
    ∙ ap (λ n. gathered gather body n c.number-first.result) c.count_between-count.ensures
    ∙ ap (λ n. gathered gather body (count_between most c.number-first.result n) c.number-first.result) (c.number.ensures ∙ ap (λ (e : Expression). number_of (value_of e s table work locals)) c.deref-in-Gather-2.ensures)
    ∙ ap (λ n. gathered gather body (count_between most n last) n) (c.number-first.ensures ∙ ap (λ (e : Expression). number_of (value_of e s table work locals)) c.deref-in-Gather.ensures)
    ∙ ap (λ (e : Expression). value_of e s table work locals) (sym c.in-Gather.is)

pub first_over-loop-preserved : goal.first_over-loop-preserved
first_over-loop-preserved t c =
    let body = λ (i : Option ℤ). value_of c.args.body.now (setting_of c.args.sight.now.scene.now) c.args.sight.now.table.now c.args.sight.now.work.now (whole i ∷ values_of c.args.locals.now) in
    first_more body _ _ _ c.loop-test.true _ _ _ _ c.next-i.ensures c.evaluate_at.ensures c.is_true.ensures c.if-is_true.false c.loop.invariant

pub sum_over-loop-preserved : goal.sum_over-loop-preserved
sum_over-loop-preserved t c =
    let body = λ (i : Option ℤ). value_of c.args.body.now (setting_of c.args.sight.now.scene.now) c.args.sight.now.table.now c.args.sight.now.work.now (whole i ∷ values_of c.args.locals.now) in
    together_more body _ _ _ c.loop-test.true sum_with _ _ _ _ _ c.next-i.ensures (c.number_of.ensures ∙ ap number_of c.evaluate_at.ensures) c.sum_with-so_far.ensures c.loop.invariant

pub greatest_over-loop-preserved : goal.greatest_over-loop-preserved
greatest_over-loop-preserved t c =
    let body = λ (i : Option ℤ). value_of c.args.body.now (setting_of c.args.sight.now.scene.now) c.args.sight.now.table.now c.args.sight.now.work.now (whole i ∷ values_of c.args.locals.now) in
    together_more body _ _ _ c.loop-test.true greatest_with _ _ _ _ _ c.next-i.ensures (c.number_of.ensures ∙ ap number_of c.evaluate_at.ensures) c.greatest_with-so_far.ensures c.loop.invariant
