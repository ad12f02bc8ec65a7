use Rattle.std.proofs.Common.{arith, ap, drop-drop, length, sym, ◌∙◌}
use Rattle.std.proofs.lemmas.Slice.{between_to_end}
use Rattle.page_files.specs.Forms.{begins_sum, has_sum}
use Rattle.page_files.proofs.Words.{anywhere_at, anywhere_behind, anywhere_past}
use Rattle.page_files.proofs.form.has_sum.Goals as goal

pub loop-at-preserved : goal.loop-at-preserved
loop-at-preserved c =
    let name = c.args.name.now in
    sym (ap has_sum (drop-drop 1 c.loop-at.at name))
    ∙ anywhere_behind begins_sum name c.loop-at.at (omega arith)
    (sym (ap begins_sum (between_to_end name c.loop-at.at (length name) (omega arith))) ∙ sym c.begins_sum.ensures ∙ c.if-begins_sum.false)
    ∙ c.loop-at.invariant

pub returns-then-begins_sum : goal.returns-then-begins_sum
returns-then-begins_sum c =
    let name = c.args.name.now in
    sym (anywhere_at begins_sum name c.loop-at.at (omega arith)
    (sym (ap begins_sum (between_to_end name c.loop-at.at (length name) (omega arith))) ∙ sym c.begins_sum.ensures ∙ c.if-begins_sum.true))
    ∙ c.loop-at.invariant

pub returns : goal.returns
returns c = sym (anywhere_past begins_sum c.args.name.now c.loop-at.at (omega arith)) ∙ c.loop-at.invariant
