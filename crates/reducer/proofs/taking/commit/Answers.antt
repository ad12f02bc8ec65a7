use Rattle.std.proofs.Common.{ap, ◌∙◌}
use Rattle.reducer.specs.Steps.{state_after}
use Rattle.reducer.proofs.taking.commit.Goals as goal

pub returns-in-Back-clause-after : goal.returns-in-Back-clause-after
returns-in-Back-clause-after g c =
    c.undo.ensures.after c.in-Back.seat ∙ ap (λ p. state_after (g.X.Game.rules c.args.game.now) c.args.state.now p.action) c.in-Back.ensures.coming

pub returns-in-Again-clause-after : goal.returns-in-Again-clause-after
returns-in-Again-clause-after g c =
    c.redo.ensures.after c.in-Again.seat ∙ ap (λ p. state_after (g.X.Game.rules c.args.game.now) c.args.state.now p.action) c.in-Again.ensures.coming
