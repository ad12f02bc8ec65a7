use Rattle.std.proofs.Common.{rules, ap, ◌∙◌}
use Rattle.client_predict.specs.Reading.{change_onto}
use Rattle.client_predict.proofs.client.Client.read_change.Goals as goal

pub returns : goal.returns
returns g c =
    let r = g.X.Game.rules c.self.inside.game in
    rw (← c.self.view_is, c.in-Some.is) (c.in_ok-change.ensures ∙ ap (λ s. change_onto r s c.args.entry c.args.ctx.now c.args.gone.now c.args.put.now) c.parts_of-settled.ensures)
