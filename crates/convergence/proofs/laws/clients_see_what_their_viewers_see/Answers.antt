use Rattle.convergence.proofs.Clauses.{goes_on, present, settled}
use Rattle.convergence.proofs.laws.clients_see_what_their_viewers_see.Goals as goal

pub returns-clause-settled : goal.returns-clause-settled
returns-clause-settled g c = λ room h low fits. settled g.X.Game.rules room low g.met.X.Game.lawful c.matches_stay_sound.ensures h fits

pub returns-clause-present : goal.returns-clause-present
returns-clause-present g c = λ room h low fits. present g.X.Game.rules room low g.met.X.Game.lawful c.matches_stay_sound.ensures h fits

pub returns-clause-gone : goal.returns-clause-gone
returns-clause-gone g c = λ room h low fits. goes_on g.X.Game.rules room low g.met.X.Game.lawful c.matches_stay_sound.ensures h fits
