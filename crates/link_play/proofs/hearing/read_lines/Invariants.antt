use Rattle.std.proofs.Common.{◌≡◌, ℕ, List, length}
use Rattle.link_play.specs.Sitting.{Tell, hears_lines, sitting}
use Rattle.link_play.proofs.hearing.read_lines.Given as goal

-- so many lines were heard, and nothing else
abbrev pub invariant-loop-taken : goal.invariant-loop-taken
invariant-loop-taken g l = record {
  game_stays : l.player.game ≡ l.initial.player.game;
  key_stays : l.player.key ≡ l.initial.player.key;
  sink_stays : g.K.Sink.faults l.sink ≡ g.K.Sink.faults l.initial.sink;
  link_stays : g.L.Link.faults l.link ≡ g.L.Link.faults l.initial.link;
  tell : Tell (g.K.Sink.held l.initial.sink) (g.L.Link.sent l.initial.link) (g.L.Link.answers l.initial.link) → Tell (g.K.Sink.held l.sink) (g.L.Link.sent l.link) (g.L.Link.answers l.link);
  heard : Tell (g.K.Sink.held l.initial.sink) (g.L.Link.sent l.initial.link) (g.L.Link.answers l.initial.link)
      → (lines : List (List ℕ)) × (length lines ≡ l._taken)
      × (sitting l.player.client (g.K.Sink.held l.sink) (g.L.Link.sent l.link) (g.L.Link.answers l.link)
      ≡ hears_lines (g.X.Game.rules l.initial.player.game) (sitting l.initial.player.client (g.K.Sink.held l.initial.sink) (g.L.Link.sent l.initial.link) (g.L.Link.answers l.initial.link)) lines);
}
