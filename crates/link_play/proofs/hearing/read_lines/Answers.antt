use Rattle.std.proofs.Common.{◌∙◌, subst, Ok}
use Rattle.link_play.specs.Hearing.{HearsOne}
use Rattle.link_play.specs.Sitting.{sitting}
use Rattle.link_play.proofs.Sittings.{line_heard}
use Rattle.link_play.proofs.hearing.read_lines.Goals as goal

pub loop-taken-preserved : goal.loop-taken-preserved
loop-taken-preserved g c =
    let i = c.loop-taken.invariant in
    let first = sitting c.args.player.now.client (g.K.Sink.held c.args.sink.now) (g.L.Link.sent c.args.link.now) (g.L.Link.answers c.args.link.now) in
    let before = sitting c.loop-taken.player.client (g.K.Sink.held c.loop-taken.sink) (g.L.Link.sent c.loop-taken.link) (g.L.Link.answers c.loop-taken.link) in
    let after = sitting c.hear.new.player.client (g.K.Sink.held c.hear.new.sink) (g.L.Link.sent c.hear.new.link) (g.L.Link.answers c.hear.new.link) in
    record {
      game_stays = c.hear.ensures.game ∙ i.game_stays;
      key_stays = c.hear.ensures.key ∙ i.key_stays;
      sink_stays = c.in-Ok-Line.ensures.raises.0 ∙ i.sink_stays;
      link_stays = c.in-Ok-Line.ensures.raises.1 ∙ i.link_stays;
      tell = λ t. c.hear.ensures.tell (i.tell t);
      heard = λ t.
          line_heard (g.X.Game.rules c.args.player.now.game) first before after c.in-Ok-Line.field-0 (i.heard t).0 c.loop-taken._taken c.in-Ok-Line.field-0-is (i.heard t).1 (i.heard t).2
          (subst (λ game. HearsOne (g.X.Game.rules game) (Ok c.in-Ok-Line.field-0) before after) i.game_stays (c.in-Ok-Line.ensures.hears (i.tell t)));
    }
