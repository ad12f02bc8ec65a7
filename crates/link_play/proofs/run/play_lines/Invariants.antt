use Rattle.std.proofs.Common.{◌≡◌, ◌-◌, IsSome}
use Rattle.board_links.specs.Pieces.{told_bytes}
use Rattle.line_runner.specs.Reader.{to_come}
use Rattle.link_play.specs.Doing.{Who, key_of, sync_line}
use Rattle.link_play.specs.Sitting.{Sitting, Tell, sends, sitting}
use Rattle.link_play.proofs.Underway.{Underway}
use Rattle.link_play.proofs.run.play_lines.Given as goal

-- no count of faults rose, the player is that of the same game and seat, and where all is told, what was done is what the lines before asked for
abbrev pub invariant-lines : goal.invariant-lines
invariant-lines g l = record {
  game_stays : l.player.game ≡ l.initial.player.game;
  key_stays : l.player.key ≡ l.initial.player.key;
  source_stays : g.S.Source.faults l.source ≡ g.S.Source.faults l.initial.source;
  sink_stays : g.K.Sink.faults l.sink ≡ g.K.Sink.faults l.initial.sink;
  link_stays : g.L.Link.faults l.link ≡ g.L.Link.faults l.initial.link;
  source_tells : IsSome (g.S.Source.left l.initial.source) → IsSome (g.S.Source.left l.source);
  others_tell : Tell (g.K.Sink.held l.initial.sink) (g.L.Link.sent l.initial.link) (g.L.Link.answers l.initial.link) → Tell (g.K.Sink.held l.sink) (g.L.Link.sent l.link) (g.L.Link.answers l.link);
  underway : IsSome (g.S.Source.left l.initial.source) → Tell (g.K.Sink.held l.initial.sink) (g.L.Link.sent l.initial.link) (g.L.Link.answers l.initial.link)
      → (who : Who) (first : Sitting g.row.X-G.Denot) → l.initial.player.key ≡ key_of who.viewer
      → sitting l.initial.player.client (g.K.Sink.held l.initial.sink) (g.L.Link.sent l.initial.link) (g.L.Link.answers l.initial.link) ≡ sends first (sync_line who)
      → Underway (g.X.Game.rules l.initial.player.game) who (told_bytes (g.S.Source.left l.initial.source)) first l.lines.given l.lines (told_bytes (g.S.Source.left l.source))
      (to_come l.lines (told_bytes (g.S.Source.left l.source))) (sitting l.player.client (g.K.Sink.held l.sink) (g.L.Link.sent l.link) (g.L.Link.answers l.link));
}

abbrev pub decreases-lines : goal.decreases-lines
decreases-lines g l = 1000000 - l.lines.given
