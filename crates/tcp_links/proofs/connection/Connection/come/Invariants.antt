use Rattle.tcp_links.specs.Cuts.{Grows}
use Rattle.tcp_links.proofs.connection.Connection.come.Given as goal

abbrev pub invariant-loop : goal.invariant-loop
invariant-loop g l =
    (goal.iterator-loop g).can_next l.iterator' × (goal.iterator-loop g).is_finite l.iterator' × Grows l.fn.self.lines l.self.lines
