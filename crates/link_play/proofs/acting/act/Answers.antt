use Rattle.std.proofs.Common.{refl, ap, ◌∙◌, subst}
use Rattle.board_links.specs.Pieces.{told_bytes}
use Rattle.client_predict.specs.Acting.{act_no}
use Rattle.link_play.specs.Pieces.{Prints}
use Rattle.link_play.specs.Sitting.{sitting, told_answers}
use Rattle.link_play.proofs.Actions.{refused, unsent}
use Rattle.link_play.proofs.SentLines.{line_ends}
use Rattle.link_play.proofs.acting.act.Goals as goal

pub send-sent-requires : goal.send-sent-requires
send-sent-requires g c = line_ends _ _ (c.as_slice.ensures.value ∙ c.in-Ok.ensures.acted.sent)

pub returns-in-Err-sent-clause-acts : goal.returns-in-Err-sent-clause-acts
returns-in-Err-sent-clause-acts g c = λ t.
    unsent (g.X.Game.rules c.args.player.now.game) c.args.player.now.key c.args.asked.now c.in-Err-sent.why
    (sitting c.args.player.now.client (g.K.Sink.held c.args.sink.now) (g.L.Link.sent c.args.link.now) (g.L.Link.answers c.args.link.now))
    c.in-Ok.ensures.acted.p c.as_slice.result.now c.act.new.self.client (told_bytes (g.K.Sink.held c.args.sink.now)) (told_bytes (g.L.Link.sent c.send-sent.new.link))
    (told_answers (g.L.Link.answers c.send-sent.new.link)) c.in-Ok.ensures.acted.playing
    (ap (act_no c.args.player.now.client.gone) c.in-Ok.ensures.acted.playing ∙ c.in-Ok.ensures.acted.may)
    (c.as_slice.ensures.value ∙ c.in-Ok.ensures.acted.sent) (ap (λ h. h.client) c.in-Ok.ensures.acted.waits) refl (ap told_answers c.send-sent.ensures.answers) (c.in-Err-sent.ensures.told t.1)

pub returns-in-Err-clause-acts : goal.returns-in-Err-clause-acts
returns-in-Err-clause-acts g c = λ t.
    refused (g.X.Game.rules c.args.player.now.game) c.args.player.now.key c.args.asked.now c.in-Err.why c.print-in-Err.result
    (sitting c.args.player.now.client (g.K.Sink.held c.args.sink.now) (g.L.Link.sent c.args.link.now) (g.L.Link.answers c.args.link.now))
    c.act.new.self.client (told_bytes (g.K.Sink.held c.print-in-Err.new.sink)) (told_bytes (g.L.Link.sent c.args.link.now)) (told_answers (g.L.Link.answers c.args.link.now))
    c.in-Err.ensures.refused (ap (λ h. h.client) c.in-Err.ensures.unchanged) refl refl
    (subst (λ text. Prints c.print-in-Err.result text (told_bytes (g.K.Sink.held c.args.sink.now)) (told_bytes (g.K.Sink.held c.print-in-Err.new.sink)))
    (c.as_bytes-in-Err.ensures.value ∙ c.act_no_line.ensures) (c.print-in-Err.ensures.told t.0))
