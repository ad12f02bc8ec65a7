use Rattle.undo_redo.specs.IsTrail.{IsTrail}
use Rattle.test_values.proofs.trails.advance_to.Given as goal

abbrev pub invariant-loop-act : goal.invariant-loop-act
invariant-loop-act g l = IsTrail (g.M.Machine.stepped l.machine) (g.M.Machine.state_fits l.machine) (g.M.Machine.act_fits l.machine) l.trail
