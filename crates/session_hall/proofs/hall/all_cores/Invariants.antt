use Rattle.session_hall.proofs.Beginning.{CoresTo}
use Rattle.session_hall.proofs.hall.all_cores.Given as goal

-- the passes so far have their cores
abbrev pub invariant-loop-pass : goal.invariant-loop-pass
invariant-loop-pass l = CoresTo l.pass l.rooms l.cores.items
