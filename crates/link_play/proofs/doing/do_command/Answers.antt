use Rattle.std.proofs.Common.{sym, subst}
use Rattle.link_play.specs.Commands.{command_is}
use Rattle.link_play.specs.Sitting.{sitting}
use Rattle.link_play.specs.Stopping.{Did}
use Rattle.link_play.proofs.Actions.{acts_did}
use Rattle.link_play.proofs.doing.do_command.Goals as goal

pub returns-in-Acts-clause-did : goal.returns-in-Acts-clause-did
returns-in-Acts-clause-did g c = λ t who e.
    let rules = g.X.Game.rules c.args.player.now.game in
    let before = sitting c.args.player.now.client (g.K.Sink.held c.args.sink.now) (g.L.Link.sent c.args.link.now) (g.L.Link.answers c.args.link.now) in
    let after = sitting c.act.new.player.client (g.K.Sink.held c.act.new.sink) (g.L.Link.sent c.act.new.link) (g.L.Link.answers c.act.new.link) in
    subst (λ command. Did rules who (command_is command) c.act.result before after) (sym c.in-Acts.is)
    (acts_did rules who c.args.player.now.key c.in-Acts.asked c.act.result before after e (c.act.ensures.acts t))
