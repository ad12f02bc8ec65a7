use Rattle.tcp_links.specs.Cuts.{Grows}
use Rattle.poll_links.proofs.incoming.come.Given as goal

abbrev pub invariant-loop : goal.invariant-loop
invariant-loop g l =
    (goal.iterator-loop g).can_next l.iterator' × (goal.iterator-loop g).is_finite l.iterator' × Grows l.fn.lines l.lines
