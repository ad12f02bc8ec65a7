use Rattle.std.proofs.Common.{◌≡◌, ◌+◌, refl, sym, ap, ◌∙◌, subst, arith, None}
use Rattle.board_links.specs.Pieces.{told_bytes}
use Rattle.line_runner.specs.Reading.{given_after}
use Rattle.line_runner.specs.Running.{stop_at}
use Rattle.link_play.specs.Exits.{end_at}
use Rattle.link_play.specs.Lines.{RanLine}
use Rattle.link_play.specs.Sitting.{sitting}
use Rattle.link_play.proofs.Ending.{as_line, begins_with, counts_line, end_ends, line_goes, stop_ends}
use Rattle.line_runner.proofs.EndLaws.{line_is, stop_stays}
use Rattle.link_play.proofs.Exiting.{done_is, end_raises, end_shows, end_stays, stop_raises, stop_shows}
use Rattle.link_play.proofs.run.play_lines.Goals as goal

pub lines-init : goal.lines-init
lines-init g c = record {
  game_stays = refl;
  key_stays = refl;
  source_stays = refl;
  sink_stays = refl;
  link_stays = refl;
  source_tells = λ p. p;
  others_tell = λ t. t;
  underway = λ p t who first k e.
      begins_with (g.X.Game.rules c.args.player.now.game) who (told_bytes (g.S.Source.left c.args.source.now)) first
      (sitting c.args.player.now.client (g.K.Sink.held c.args.sink.now) (g.L.Link.sent c.args.link.now) (g.L.Link.answers c.args.link.now)) e c.new-lines.result c.new-lines.ensures;
}

pub stop_at-requires : goal.stop_at-requires
stop_at-requires g c = c.given.ensures.most

pub returns-in-Some-clause-source_never_falls : goal.returns-in-Some-clause-source_never_falls
returns-in-Some-clause-source_never_falls g c = omega (arith, c.lines.invariant.source_stays, c.next_line-next.ensures.never_falls)

pub returns-in-Some-clause-sink_never_falls : goal.returns-in-Some-clause-sink_never_falls
returns-in-Some-clause-sink_never_falls g c = omega (arith, c.lines.invariant.sink_stays)

pub returns-in-Some-clause-link_never_falls : goal.returns-in-Some-clause-link_never_falls
returns-in-Some-clause-link_never_falls g c = omega (arith, c.lines.invariant.link_stays)

pub returns-in-Some-clause-raises : goal.returns-in-Some-clause-raises
returns-in-Some-clause-raises g c =
    stop_raises (g.S.Source.faults c.args.source.now) (g.S.Source.faults c.lines.source) (g.S.Source.faults c.next_line-next.new.source) (g.K.Sink.faults c.args.sink.now) (g.K.Sink.faults c.lines.sink)
    (g.L.Link.faults c.args.link.now) (g.L.Link.faults c.lines.link) c.lines.invariant.source_stays c.lines.invariant.sink_stays c.lines.invariant.link_stays
    c.next_line-next.result c.given.result c.in-Some.exit (sym c.stop_at.ensures ∙ c.in-Some.is) c.next_line-next.ensures.raises

pub returns-in-Some-clause-shows : goal.returns-in-Some-clause-shows
returns-in-Some-clause-shows g c = stop_shows (g.L.Link.stage c.lines.link) c.next_line-next.result c.given.result c.in-Some.exit (sym c.stop_at.ensures ∙ c.in-Some.is)

pub returns-in-Some-clause-ends : goal.returns-in-Some-clause-ends
returns-in-Some-clause-ends g c = λ p t who first k e.
    stop_ends (g.X.Game.rules c.args.player.now.game) who (told_bytes (g.S.Source.left c.args.source.now)) first c.lines.lines.given c.lines.lines (told_bytes (g.S.Source.left c.lines.source))
    (sitting c.lines.player.client (g.K.Sink.held c.lines.sink) (g.L.Link.sent c.lines.link) (g.L.Link.answers c.lines.link)) (c.lines.invariant.underway p t who first k e)
    c.next_line-next.result c.next_line-next.new.self.line c.next_line-next.new.self (told_bytes (g.S.Source.left c.next_line-next.new.source)) c.in-Some.exit c.given.result
    (c.next_line-next.ensures.moves (c.lines.invariant.source_tells p)) c.next_line-next.ensures.stands (c.given.ensures.value ∙ c.next_line-next.ensures.given) (sym c.stop_at.ensures ∙ c.in-Some.is)

pub returns-in-Some-end_at-clause-source_never_falls : goal.returns-in-Some-end_at-clause-source_never_falls
returns-in-Some-end_at-clause-source_never_falls g c = omega (arith, c.lines.invariant.source_stays, c.next_line-next.ensures.never_falls)

pub returns-in-Some-end_at-clause-sink_never_falls : goal.returns-in-Some-end_at-clause-sink_never_falls
returns-in-Some-end_at-clause-sink_never_falls g c = omega (arith, c.lines.invariant.sink_stays, c.run_line-ran.ensures.sink_never_falls)

pub returns-in-Some-end_at-clause-link_never_falls : goal.returns-in-Some-end_at-clause-link_never_falls
returns-in-Some-end_at-clause-link_never_falls g c = omega (arith, c.lines.invariant.link_stays, c.run_line-ran.ensures.link_never_falls)

pub returns-in-Some-end_at-clause-raises : goal.returns-in-Some-end_at-clause-raises
returns-in-Some-end_at-clause-raises g c =
    end_raises (g.S.Source.faults c.args.source.now) (g.S.Source.faults c.next_line-next.new.source) (g.K.Sink.faults c.args.sink.now) (g.K.Sink.faults c.lines.sink) (g.K.Sink.faults c.run_line-ran.new.sink)
    (g.L.Link.faults c.args.link.now) (g.L.Link.faults c.lines.link) (g.L.Link.faults c.run_line-ran.new.link)
    (stop_stays c.next_line-next.result c.given.result _ _ (sym c.stop_at.ensures ∙ c.in_default.is) c.next_line-next.ensures.raises ∙ c.lines.invariant.source_stays)
    c.lines.invariant.sink_stays c.lines.invariant.link_stays
    c.run_line-ran.result c.given-in-lines.result c.in-Some-end_at.exit (sym c.end_at.ensures ∙ c.in-Some-end_at.is) c.run_line-ran.ensures.raises

pub returns-in-Some-end_at-clause-shows : goal.returns-in-Some-end_at-clause-shows
returns-in-Some-end_at-clause-shows g c =
    end_shows (g.L.Link.stage c.run_line-ran.new.link) c.run_line-ran.result c.given-in-lines.result c.in-Some-end_at.exit (sym c.end_at.ensures ∙ c.in-Some-end_at.is) c.run_line-ran.ensures.shows

pub returns-in-Some-end_at-clause-ends : goal.returns-in-Some-end_at-clause-ends
returns-in-Some-end_at-clause-ends g c = λ p t who first k e.
    let n : stop_at c.next_line-next.result c.given.result ≡ None = sym c.stop_at.ensures ∙ c.in_default.is in
    let now = sitting c.lines.player.client (g.K.Sink.held c.lines.sink) (g.L.Link.sent c.lines.link) (g.L.Link.answers c.lines.link) in
    let last = sitting c.run_line-ran.new.player.client (g.K.Sink.held c.run_line-ran.new.sink) (g.L.Link.sent c.run_line-ran.new.link) (g.L.Link.answers c.run_line-ran.new.link) in
    end_ends (g.X.Game.rules c.args.player.now.game) who (told_bytes (g.S.Source.left c.args.source.now)) first c.lines.lines.given c.lines.lines (told_bytes (g.S.Source.left c.lines.source))
    now (c.lines.invariant.underway p t who first k e)
    c.next_line-next.new.self.line c.next_line-next.new.self (told_bytes (g.S.Source.left c.next_line-next.new.source))
    (as_line c.next_line-next.result c.given.result c.next_line-next.new.self.line c.lines.lines c.next_line-next.new.self (told_bytes (g.S.Source.left c.lines.source))
    (told_bytes (g.S.Source.left c.next_line-next.new.source)) n (c.next_line-next.ensures.moves (c.lines.invariant.source_tells p)))
    c.line.result.now c.line.ensures last c.run_line-ran.result c.in-Some-end_at.exit c.given-in-lines.result
    (subst (λ game. RanLine (g.X.Game.rules game) who c.line.result.now c.run_line-ran.result now last) c.lines.invariant.game_stays
    (c.run_line-ran.ensures.ran (c.lines.invariant.others_tell t) who (c.lines.invariant.key_stays ∙ k)))
    (c.given-in-lines.ensures.value ∙ counts_line c.next_line-next.result c.given.result c.next_line-next.new.self.given c.lines.lines.given n c.next_line-next.ensures.given)
    (sym c.end_at.ensures ∙ c.in-Some-end_at.is)

pub lines-smaller : goal.lines-smaller
lines-smaller g c =
    let counts : c.next_line-next.new.self.given ≡ c.lines.lines.given + 1 =
    c.next_line-next.ensures.given ∙ ap (λ n. given_after n c.lines.lines.given) (line_is c.next_line-next.result c.given.result (sym c.stop_at.ensures ∙ c.in_default.is)) in
    omega (arith, counts, c.next_line-next.ensures.most)

pub lines-preserved : goal.lines-preserved
lines-preserved g c =
    let n : stop_at c.next_line-next.result c.given.result ≡ None = sym c.stop_at.ensures ∙ c.in_default.is in
    let d : end_at c.run_line-ran.result c.given-in-lines.result ≡ None = sym c.end_at.ensures ∙ c.in_default-end_at.is in
    let stays = end_stays c.run_line-ran.result c.given-in-lines.result (g.K.Sink.faults c.lines.sink) (g.K.Sink.faults c.run_line-ran.new.sink)
    (g.L.Link.faults c.lines.link) (g.L.Link.faults c.run_line-ran.new.link) d c.run_line-ran.ensures.raises in
    let now = sitting c.lines.player.client (g.K.Sink.held c.lines.sink) (g.L.Link.sent c.lines.link) (g.L.Link.answers c.lines.link) in
    let after = sitting c.run_line-ran.new.player.client (g.K.Sink.held c.run_line-ran.new.sink) (g.L.Link.sent c.run_line-ran.new.link) (g.L.Link.answers c.run_line-ran.new.link) in
    record {
      game_stays = c.run_line-ran.ensures.game ∙ c.lines.invariant.game_stays;
      key_stays = c.run_line-ran.ensures.key ∙ c.lines.invariant.key_stays;
      source_stays = stop_stays c.next_line-next.result c.given.result _ _ n c.next_line-next.ensures.raises ∙ c.lines.invariant.source_stays;
      sink_stays = stays.0 ∙ c.lines.invariant.sink_stays;
      link_stays = stays.1 ∙ c.lines.invariant.link_stays;
      source_tells = λ p. c.next_line-next.ensures.tells (c.lines.invariant.source_tells p);
      others_tell = λ t. c.run_line-ran.ensures.tell (c.lines.invariant.others_tell t);
      underway = λ p t who first k e.
          line_goes (g.X.Game.rules c.args.player.now.game) who (told_bytes (g.S.Source.left c.args.source.now)) first c.lines.lines.given c.lines.lines (told_bytes (g.S.Source.left c.lines.source))
          now (c.lines.invariant.underway p t who first k e)
          c.next_line-next.new.self.line c.next_line-next.new.self (told_bytes (g.S.Source.left c.next_line-next.new.source))
          (as_line c.next_line-next.result c.given.result c.next_line-next.new.self.line c.lines.lines c.next_line-next.new.self (told_bytes (g.S.Source.left c.lines.source))
          (told_bytes (g.S.Source.left c.next_line-next.new.source)) n (c.next_line-next.ensures.moves (c.lines.invariant.source_tells p)))
          c.line.result.now c.line.ensures after c.run_line-ran.result c.next_line-next.new.self.given
          (subst (λ game. RanLine (g.X.Game.rules game) who c.line.result.now c.run_line-ran.result now after) c.lines.invariant.game_stays
          (c.run_line-ran.ensures.ran (c.lines.invariant.others_tell t) who (c.lines.invariant.key_stays ∙ k)))
          (counts_line c.next_line-next.result c.given.result c.next_line-next.new.self.given c.lines.lines.given n c.next_line-next.ensures.given)
          (done_is c.run_line-ran.result c.given-in-lines.result d);
    }
