use Rattle.std.proofs.Common.{◌++◌, is_some, refl, sym, ap, ◌∙◌, subst}
use Rattle.board_links.specs.Pieces.{told_bytes}
use Rattle.link_play.specs.Counts.{ExitRaises}
use Rattle.link_play.specs.Doing.{Who, sync_line}
use Rattle.link_play.specs.Ends.{Ends}
use Rattle.link_play.specs.Sitting.{sitting, told_answers}
use Rattle.link_play.proofs.Actions.{part_sent}
use Rattle.link_play.proofs.Ending.{breaks_first}
use Rattle.link_play.proofs.Exiting.{first_raises, first_shows}
use Rattle.link_play.proofs.Sittings.{same}
use Rattle.link_play.proofs.run.begin.Goals as goal

pub returns-in-Ok-clause-raises : goal.returns-in-Ok-clause-raises
returns-in-Ok-clause-raises g c =
    subst (λ l. ExitRaises c.play_lines.result (g.S.Source.faults c.args.source.now) (g.S.Source.faults c.play_lines.new.source) (g.K.Sink.faults c.args.sink.now) (g.K.Sink.faults c.play_lines.new.sink) l (g.L.Link.faults c.play_lines.new.link))
    c.in-Ok.ensures.raises c.play_lines.ensures.raises

pub returns-in-Ok-clause-ends : goal.returns-in-Ok-clause-ends
returns-in-Ok-clause-ends g c = λ p t.
    let who : Who = record { name = c.args.name; viewer = c.args.viewer } in
    let first = sitting c.args.player.now.client (g.K.Sink.held c.args.sink.now) (g.L.Link.sent c.args.link.now) (g.L.Link.answers c.args.link.now) in
    c.play_lines.ensures.ends p (t.0, c.sync.ensures.tells ∙ t.1, ap is_some c.sync.ensures.answers ∙ t.2) who first c.requires
    (same c.args.player.now.client c.args.player.now.client (told_bytes (g.K.Sink.held c.args.sink.now)) (told_bytes (g.K.Sink.held c.args.sink.now))
    (told_bytes (g.L.Link.sent c.sync.new.link)) (told_bytes (g.L.Link.sent c.args.link.now) ++ sync_line who) (told_answers (g.L.Link.answers c.sync.new.link)) (told_answers (g.L.Link.answers c.args.link.now)) refl refl (c.in-Ok.ensures.told t.1) (ap told_answers c.sync.ensures.answers))

pub returns-in-Err-clause-raises : goal.returns-in-Err-clause-raises
returns-in-Err-clause-raises g c =
    first_raises (g.S.Source.faults c.args.source.now) (g.K.Sink.faults c.args.sink.now) (g.L.Link.faults c.args.link.now) (g.L.Link.faults c.sync.new.link) c.in-Err.why c.stopped.result c.stopped.ensures c.in-Err.ensures.raises

pub returns-in-Err-clause-shows : goal.returns-in-Err-clause-shows
returns-in-Err-clause-shows g c =
    first_shows 0 0 (g.L.Link.faults c.args.link.now) (g.L.Link.faults c.sync.new.link) (g.L.Link.stage c.sync.new.link) c.in-Err.why c.stopped.result c.stopped.ensures c.in-Err.ensures.raises

pub returns-in-Err-clause-ends : goal.returns-in-Err-clause-ends
returns-in-Err-clause-ends g c = λ p t.
    let who : Who = record { name = c.args.name; viewer = c.args.viewer } in
    let rules = g.X.Game.rules c.args.player.now.game in
    let left = told_bytes (g.S.Source.left c.args.source.now) in
    let first = sitting c.args.player.now.client (g.K.Sink.held c.args.sink.now) (g.L.Link.sent c.args.link.now) (g.L.Link.answers c.args.link.now) in
    let last = sitting c.args.player.now.client (g.K.Sink.held c.args.sink.now) (g.L.Link.sent c.sync.new.link) (g.L.Link.answers c.sync.new.link) in
    subst (λ x. Ends rules who x left left first last) (sym c.stopped.ensures)
    (breaks_first rules who c.in-Err.why left left first last
    (part_sent c.in-Err.why (sync_line who) first c.args.player.now.client (told_bytes (g.K.Sink.held c.args.sink.now)) (told_bytes (g.L.Link.sent c.sync.new.link))
    (told_answers (g.L.Link.answers c.sync.new.link)) refl refl (ap told_answers c.sync.ensures.answers) (c.in-Err.ensures.told t.1)))
