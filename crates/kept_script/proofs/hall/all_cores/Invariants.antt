use Rattle.session_hall.proofs.Beginning.{CoresTo}
use Rattle.kept_script.proofs.hall.all_cores.Given as goal

-- the passes so far have their cores
abbrev pub invariant-loop-pass : goal.invariant-loop-pass
invariant-loop-pass l = CoresTo l.pass 1 l.cores.items
