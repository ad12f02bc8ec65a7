use Rattle.convergence.proofs.Clauses.{are_shallow}
use Rattle.convergence.proofs.laws.lines_are_shallow_where_states_are.Goals as goal

pub returns : goal.returns
returns g c = λ flat room h low fits. are_shallow g.X.Game.rules room low g.met.X.Game.lawful c.matches_stay_sound.ensures flat h fits
