use Rattle.std.proofs.Common.{None}
use Rattle.session_pool.specs.Passes.{Belong, number_of}
use Rattle.session_pool.specs.Placed.{AttachedBy}
use Rattle.session_pool.proofs.Places.{all_but_last}
use Rattle.test_server.proofs.frames.opened.Goals as goal

pub invariant_of-result-clause-belong : goal.invariant_of-result-clause-belong
invariant_of-result-clause-belong c =
    (all_but_last (λ p. Belong c.in_ok-desks.desks.items (number_of p.items) p.items) _ _ _ c.in-Some.ensures.items c.in_ok-desks.ensures.belong).0

pub invariant_of-result-clause-free : goal.invariant_of-result-clause-free
invariant_of-result-clause-free c = (all_but_last (λ p. AttachedBy p.items None) _ _ _ c.in-Some.ensures.items c.in_ok-desks.ensures.free).0
