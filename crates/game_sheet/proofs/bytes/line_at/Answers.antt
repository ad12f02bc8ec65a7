use Rattle.std.proofs.Common.{◌≡◌, arith, ap, drop, length, subst, ◌∙◌}
use Rattle.std.proofs.lemmas.Slice.{between_to_end}
use Rattle.game_sheet.specs.Lines.{lines}
use Rattle.game_sheet.proofs.Cut.{line_there, next_lines}
use Rattle.game_sheet.proofs.bytes.line_at.Goals as goal

pub loop-line-preserved : goal.loop-line-preserved
loop-line-preserved c =
    ap lines (between_to_end c.loop-line.rest.now c.first_length.result (length c.loop-line.rest.now) (omega arith))
    ∙ next_lines c.args.bytes.now c.loop-line.rest.now c.loop-line._line c.first_length.result c.loop-line.invariant (omega arith) c.first_length.ensures.line

pub returns : goal.returns
returns c =
    let at : c.loop-line._line ≡ c.args.place = omega arith in
    line_there c.args.bytes.now c.loop-line.rest.now c.args.place c.first_length-2.result
    (subst (λ n. lines c.loop-line.rest.now ≡ drop n (lines c.args.bytes.now)) at c.loop-line.invariant) c.requires c.first_length-2.ensures.line
