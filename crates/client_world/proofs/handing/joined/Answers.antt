use Rattle.std.proofs.Common.{◌++◌, ◌≤◌, ◌∙◌, ap, subst}
use Rattle.game_sheet.specs.Lines.{lines}
use Rattle.client_world.proofs.Joining.{all_joined, line_more}
use Rattle.client_world.proofs.handing.joined.Goals as goal

-- the piece is the next line
pub loop-place-preserved : goal.loop-place-preserved
loop-place-preserved c =
    c.in_ok-extend_from_slice.ensures.items ∙ ap (λ all. all ++ c.piece.result.now) c.loop-place.invariant
    ∙ line_more (lines c.args.bytes.now) c.loop-place.place c.piece.result.now c.piece.ensures

-- no line is left
pub returns : goal.returns
returns c = c.loop-place.invariant ∙ all_joined c.args.bytes.now c.loop-place.place (subst (λ count. count ≤ c.loop-place.place) c.count-place-end.ensures c.loop-place-test.false)
