use Rattle.std.specs.Prelude.{◌≤◌, length}
use Rattle.ws_link.specs.Frames.{TellsNothing, held_limit}
use Rattle.ws_link.proofs.framing.Framing.hear.Given as goal

abbrev pub invariant-loop : goal.invariant-loop
invariant-loop g l = TellsNothing g.T.Read.remaining l.fn.self l.self × (length l.fn.self.input ≤ held_limit → length l.self.input ≤ held_limit)
