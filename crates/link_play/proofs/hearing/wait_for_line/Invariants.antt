use Rattle.std.proofs.Common.{◌≡◌}
use Rattle.link_play.specs.Sitting.{Tell, quiet_for, sitting}
use Rattle.link_play.proofs.hearing.wait_for_line.Given as goal

-- the link was quiet so many times, and nothing else
abbrev pub invariant-loop-times : goal.invariant-loop-times
invariant-loop-times g l = record {
  game_stays : l.player.game ≡ l.initial.player.game;
  key_stays : l.player.key ≡ l.initial.player.key;
  sink_stays : g.K.Sink.faults l.sink ≡ g.K.Sink.faults l.initial.sink;
  link_stays : g.L.Link.faults l.link ≡ g.L.Link.faults l.initial.link;
  tell : Tell (g.K.Sink.held l.initial.sink) (g.L.Link.sent l.initial.link) (g.L.Link.answers l.initial.link) → Tell (g.K.Sink.held l.sink) (g.L.Link.sent l.link) (g.L.Link.answers l.link);
  heard : Tell (g.K.Sink.held l.initial.sink) (g.L.Link.sent l.initial.link) (g.L.Link.answers l.initial.link)
      → sitting l.player.client (g.K.Sink.held l.sink) (g.L.Link.sent l.link) (g.L.Link.answers l.link)
      ≡ quiet_for (sitting l.initial.player.client (g.K.Sink.held l.initial.sink) (g.L.Link.sent l.initial.link) (g.L.Link.answers l.initial.link)) l._times;
}
