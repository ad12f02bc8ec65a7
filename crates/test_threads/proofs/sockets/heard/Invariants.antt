use Rattle.std.proofs.Common.{◌≡◌}
use Rattle.test_threads.proofs.sockets.heard.Given as goal

abbrev pub invariant-loop : goal.invariant-loop
invariant-loop g l = g.L.Link.finished l.link ≡ g.L.Link.finished l.fn.link
