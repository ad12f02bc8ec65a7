use Rattle.undo_redo.specs.IsTrail.{IsTrail}
use Rattle.test_values.proofs.trails.redo_times.Given as goal

abbrev pub invariant-loop-time : goal.invariant-loop-time
invariant-loop-time g l = IsTrail (g.M.Machine.stepped l.machine) (g.M.Machine.state_fits l.machine) (g.M.Machine.act_fits l.machine) l.trail
