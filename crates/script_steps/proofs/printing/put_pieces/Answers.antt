use Rattle.std.proofs.Common.{◌++◌, ◌≤◌, ◌∙◌, ap, subst}
use Rattle.game_sheet.specs.Lines.{lines}
use Rattle.script_steps.proofs.Printed.{all_lines, place_more}
use Rattle.script_steps.proofs.printing.put_pieces.Goals as goal

pub loop-place-preserved : goal.loop-place-preserved
loop-place-preserved c =
    c.in_ok-put_line.ensures
    ∙ place_more c.args.pass c.args.text.now.items c.loop-place.text.items (lines c.args.bytes.now) c.loop-place.place c.piece.result.now c.piece.ensures c.loop-place.invariant

pub returns : goal.returns
returns c =
    c.loop-place.invariant
    ∙ ap (λ x. c.args.text.now.items ++ x) (all_lines c.args.pass c.args.bytes.now c.loop-place.place (subst (λ count. count ≤ c.loop-place.place) c.count-place-end.ensures c.loop-place-test.false))
