-- What is gathered over the numbers that are left, with what is gathered so far, is all that is to be gathered.
use Rattle.std.proofs.Common.{◌≡◌, ◌∷◌, ◌-◌, ℤ, pos, Option, Some, None}
use Rattle.game_code.specs.Meaning.{value_of, values_of}
use Rattle.game_code.specs.Setting.{setting_of}
use Rattle.slot_values.specs.Spans.{first_over, greatest_with, put_together, sum_with}
use Rattle.slot_values.specs.Values.{whole}
use Rattle.game_code.proofs.evaluates.+evaluate.Given as goal

abbrev pub invariant-first_over-loop : goal.invariant-first_over-loop
invariant-first_over-loop l =
    let body = λ (i : Option ℤ). value_of l.body (setting_of l.sight.scene.now) l.sight.table.now l.sight.work.now (whole i ∷ values_of l.locals) in
    first_over body (l.count - l.counter) l.i ≡ first_over body l.count l.fn.first

abbrev pub invariant-sum_over-loop : goal.invariant-sum_over-loop
invariant-sum_over-loop l =
    let body = λ (i : Option ℤ). value_of l.body (setting_of l.sight.scene.now) l.sight.table.now l.sight.work.now (whole i ∷ values_of l.locals) in
    put_together sum_with body (l.count - l.counter) l.i l.so_far ≡ put_together sum_with body l.count l.fn.first (Some (pos 0))

abbrev pub invariant-greatest_over-loop : goal.invariant-greatest_over-loop
invariant-greatest_over-loop l =
    let body = λ (i : Option ℤ). value_of l.body (setting_of l.sight.scene.now) l.sight.table.now l.sight.work.now (whole i ∷ values_of l.locals) in
    put_together greatest_with body (l.count - l.counter) l.i l.so_far ≡ put_together greatest_with body l.count l.fn.first None
