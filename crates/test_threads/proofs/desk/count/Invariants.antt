use Rattle.std.proofs.Common.{◌≡◌}
use Rattle.test_threads.proofs.desk.count.Given as goal

-- the pass stays one of its desk
abbrev pub invariant-loop : goal.invariant-loop
invariant-loop g l = l.pass.desk ≡ l.fn.pass.desk
