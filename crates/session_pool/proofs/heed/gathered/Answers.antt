use Rattle.std.proofs.Common.{◌++◌, ◌≤◌, ◌∙◌, ap, sym, subst}
use Rattle.game_sheet.specs.Lines.{lines}
use Rattle.session_pool.proofs.Lines.{concat_more, lines_all}
use Rattle.session_pool.proofs.heed.gathered.Goals as goal

pub loop-place-preserved : goal.loop-place-preserved
loop-place-preserved c =
    let line = c.piece.result.now in
    c.in_ok-extend_from_slice.ensures.items ∙ ap (λ b. b ++ line) c.loop-place.invariant ∙ sym (concat_more (lines c.args.line.now) c.loop-place.place line c.piece.ensures)

pub returns : goal.returns
returns c = c.loop-place.invariant ∙ lines_all c.args.line.now c.loop-place.place (subst (λ count. count ≤ c.loop-place.place) c.count-place-end.ensures c.loop-place-test.false)
