use Rattle.std.specs.Prelude.{◌≤◌, length}
use Rattle.ws_link.specs.Frames.{held_limit}
use Rattle.ws_link.specs.Pages.{ReadsOn}
use Rattle.ws_link.proofs.greeting.Greeting.read_head.Given as goal

abbrev pub invariant-loop : goal.invariant-loop
invariant-loop g l = ReadsOn g.T.Read.remaining l.fn.self l.self × (length l.fn.self.head.items ≤ held_limit → length l.self.head.items ≤ held_limit)
