use Rattle.board_links.specs.Pieces.{told_bytes}
use Rattle.link_play.specs.Doing.{Who}
use Rattle.link_play.specs.Sitting.{sitting}
use Rattle.link_play.proofs.Ending.{completes}
use Rattle.link_play.proofs.run.play_match.Goals as goal

pub returns-clause-completes : goal.returns-clause-completes
returns-clause-completes g c = λ p t f s k l o.
    let who : Who = record { name = c.args.name; viewer = c.args.viewer } in
    let first = sitting c.args.player.now.client (g.K.Sink.held c.args.sink.now) (g.L.Link.sent c.args.link.now) (g.L.Link.answers c.args.link.now) in
    let last = sitting c.begin.new.player.client (g.K.Sink.held c.begin.new.sink) (g.L.Link.sent c.begin.new.link) (g.L.Link.answers c.begin.new.link) in
    completes (g.X.Game.rules c.args.player.now.game) who c.begin.result (told_bytes (g.S.Source.left c.args.source.now)) (told_bytes (g.S.Source.left c.begin.new.source)) first last
    (g.L.Link.stage c.begin.new.link) (g.S.Source.faults c.args.source.now) (g.S.Source.faults c.begin.new.source) (g.K.Sink.faults c.args.sink.now) (g.K.Sink.faults c.begin.new.sink)
    (g.L.Link.faults c.args.link.now) (g.L.Link.faults c.begin.new.link) (c.begin.ensures.ends p t) c.begin.ensures.raises c.begin.ensures.shows f s k l o
