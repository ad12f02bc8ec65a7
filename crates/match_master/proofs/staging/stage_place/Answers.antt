use Rattle.std.proofs.Common.{◌≡◌, true, sym, ap, ◌∙◌, subst}
use Rattle.game_sheet.specs.Lines.{is_line}
use Rattle.match_master.specs.UpdateText.{action_line}
use Rattle.match_master.proofs.AttachedLaws.{on_ok}
use Rattle.match_master.proofs.LineLaws.{line_is_line}
use Rattle.match_master.proofs.staging.stage_place.Goals as goal

pub stage_at-requires-clause-line : goal.stage_at-requires-clause-line
stage_at-requires-clause-line g c = subst (λ b. is_line b ≡ true) (sym c.in_ok-line.ensures.line) (line_is_line _)

pub returns-clause-staged : goal.returns-clause-staged
returns-clause-staged g c =
    on_ok c.stage_at.result _ _ c.stage_at.ensures.staged
    (λ f. f (action_line (g.X.Game.rules c.args.action.now.game.now) c.args.action.now.state.now c.args.action.now.prepared.now c.args.action.now.entry.now)
    (λ e h. c.in_ok-line.ensures.line
    ∙ ap (λ p. action_line (g.X.Game.rules c.args.action.now.game.now) c.args.action.now.state.now c.args.action.now.prepared.now c.args.action.now.entry.now p.0 p.1) (c.viewer_at-seat.ensures e h)))
