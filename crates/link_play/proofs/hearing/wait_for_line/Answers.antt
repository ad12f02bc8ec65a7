use Rattle.std.proofs.Common.{◌≡◌, ◌∙◌, subst, Ok, refl, arith, ap}
use Rattle.link_play.specs.Hearing.{HearsOne}
use Rattle.link_play.specs.Sitting.{quiet_for, sitting, told_answers}
use Rattle.board_links.specs.Pieces.{told_bytes}
use Rattle.link_play.specs.Doing.{most_quiet}
use Rattle.link_play.specs.Stopping.{StopsHearing}
use Rattle.link_play.proofs.Sittings.{quiet_heard, quiet_none, waits_line, waits_out, waits_stop}
use Rattle.link_play.proofs.hearing.wait_for_line.Goals as goal

pub loop-times-preserved : goal.loop-times-preserved
loop-times-preserved g c =
    let i = c.loop-times.invariant in
    let first = sitting c.args.player.now.client (g.K.Sink.held c.args.sink.now) (g.L.Link.sent c.args.link.now) (g.L.Link.answers c.args.link.now) in
    let before = sitting c.loop-times.player.client (g.K.Sink.held c.loop-times.sink) (g.L.Link.sent c.loop-times.link) (g.L.Link.answers c.loop-times.link) in
    let after = sitting c.hear.new.player.client (g.K.Sink.held c.hear.new.sink) (g.L.Link.sent c.hear.new.link) (g.L.Link.answers c.hear.new.link) in
    record {
      game_stays = c.hear.ensures.game ∙ i.game_stays;
      key_stays = c.hear.ensures.key ∙ i.key_stays;
      sink_stays = c.in-Ok-Quiet.ensures.raises.0 ∙ i.sink_stays;
      link_stays = c.in-Ok-Quiet.ensures.raises.1 ∙ i.link_stays;
      tell = λ t. c.hear.ensures.tell (i.tell t);
      heard = λ t.
          quiet_heard (g.X.Game.rules c.args.player.now.game) first before after c.in-Ok-Quiet.field-0 c.loop-times._times c.in-Ok-Quiet.field-0-is (i.heard t)
          (subst (λ game. HearsOne (g.X.Game.rules game) (Ok c.in-Ok-Quiet.field-0) before after) i.game_stays (c.in-Ok-Quiet.ensures.hears (i.tell t)));
    }

pub loop-times-init : goal.loop-times-init
loop-times-init g c = record {
  game_stays = refl;
  key_stays = refl;
  sink_stays = refl;
  link_stays = refl;
  tell = λ t. t;
  heard = λ t. quiet_none _;
}

pub returns-in-Ok-Line-clause-waits : goal.returns-in-Ok-Line-clause-waits
returns-in-Ok-Line-clause-waits g c = λ t.
    let i = c.loop-times.invariant in
    let first = sitting c.args.player.now.client (g.K.Sink.held c.args.sink.now) (g.L.Link.sent c.args.link.now) (g.L.Link.answers c.args.link.now) in
    let before = sitting c.loop-times.player.client (g.K.Sink.held c.loop-times.sink) (g.L.Link.sent c.loop-times.link) (g.L.Link.answers c.loop-times.link) in
    let after = sitting c.hear.new.player.client (g.K.Sink.held c.hear.new.sink) (g.L.Link.sent c.hear.new.link) (g.L.Link.answers c.hear.new.link) in
    waits_line (g.X.Game.rules c.args.player.now.game) first before after c.in-Ok-Line.field-0 c.loop-times._times c.in-Ok-Line.field-0-is c.loop-times-test.true (i.heard t)
    (subst (λ game. HearsOne (g.X.Game.rules game) (Ok c.in-Ok-Line.field-0) before after) i.game_stays (c.in-Ok-Line.ensures.hears (i.tell t)))

pub returns-in-Err-clause-waits : goal.returns-in-Err-clause-waits
returns-in-Err-clause-waits g c = λ t.
    let i = c.loop-times.invariant in
    let first = sitting c.args.player.now.client (g.K.Sink.held c.args.sink.now) (g.L.Link.sent c.args.link.now) (g.L.Link.answers c.args.link.now) in
    let before = sitting c.loop-times.player.client (g.K.Sink.held c.loop-times.sink) (g.L.Link.sent c.loop-times.link) (g.L.Link.answers c.loop-times.link) in
    let after = sitting c.hear.new.player.client (g.K.Sink.held c.hear.new.sink) (g.L.Link.sent c.hear.new.link) (g.L.Link.answers c.hear.new.link) in
    waits_stop (g.X.Game.rules c.args.player.now.game) first before after c.in-Err.why c.loop-times._times c.loop-times-test.true (i.heard t)
    (subst (λ game. StopsHearing (g.X.Game.rules game) c.in-Err.why before after) i.game_stays (c.in-Err.ensures.hears (i.tell t)))

pub returns-clause-waits : goal.returns-clause-waits
returns-clause-waits g c = λ t.
    let i = c.loop-times.invariant in
    let first = sitting c.args.player.now.client (g.K.Sink.held c.args.sink.now) (g.L.Link.sent c.args.link.now) (g.L.Link.answers c.args.link.now) in
    let before = sitting c.loop-times.player.client (g.K.Sink.held c.loop-times.sink) (g.L.Link.sent c.loop-times.link) (g.L.Link.answers c.loop-times.link) in
    let all : c.loop-times._times ≡ most_quiet = omega (arith, c.loop-times-test.false, c.loop-times.auto._times-end) in
    waits_out (g.X.Game.rules c.args.player.now.game) first before c.print.result c.loop-times.player.client (told_bytes (g.K.Sink.held c.print.new.sink)) (told_bytes (g.L.Link.sent c.loop-times.link))
    (told_answers (g.L.Link.answers c.loop-times.link)) (i.heard t ∙ ap (quiet_for first) all) refl refl refl (c.print.ensures.told (i.tell t).0)
