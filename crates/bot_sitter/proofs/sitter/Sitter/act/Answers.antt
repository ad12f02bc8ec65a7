use Rattle.std.proofs.Common.{ap, ◌∙◌, slice_get}
use Rattle.bot_sitter.specs.Given.{move_asked, option_asked}
use Rattle.bot_sitter.proofs.Acted.{gives_as, if_ok}
use Rattle.bot_sitter.proofs.sitter.Sitter.act.Goals as goal

pub returns-clause-acted : goal.returns-clause-acted
returns-clause-acted g c =
    let same = c.in_ok-asked.ensures.asked ∙ ap (λ s. move_asked (slice_get s.moves c.args.id) c.args.args.now) (c.sheet.ensures.value ∙ ap (λ x. (g.X.Game.rules x).sheet) c.game.ensures)
    ∙ ap (λ x. move_asked (slice_get (g.X.Game.rules x).sheet.moves c.args.id) c.args.args.now) (ap (λ s. s.game) c.self.view_is) in
    if_ok _ _ c.act-line.result
    (λ line a. gives_as g.X.Game.rules c.self.inside.ear c.act-line.new.self c.self.inside.name c.self.inside.seat c.self.inside.sent.items c.self.inside.starved c.self.inside.gave c.self.inside.asked_out c.self.inside.last
    c.in_ok-asked.asked (option_asked (g.X.Game.rules c.args.self.now.game) (c.args.id, c.args.args.now)) line.items c.args.self.now c.self.view_is same c.self.invariant.told_is a) c.act-line.ensures.acted
