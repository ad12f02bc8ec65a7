use Rattle.convergence.proofs.Grounding.{grounded}
use Rattle.convergence.proofs.Grounds.{view_read}
use Rattle.convergence.proofs.laws.matches_can_be_shown.Goals as goal

pub returns-clause-grounded : goal.returns-clause-grounded
returns-clause-grounded g c = λ room h low fits serial m is. grounded g.X.Game.rules room low g.met.X.Game.lawful c.matches_stay_sound.ensures h fits serial m is

pub returns-clause-read : goal.returns-clause-read
returns-clause-read g c = λ room m ground later earlier e seat. view_read g.X.Game.rules room g.met.X.Game.lawful c.matches_stay_sound.ensures m ground later earlier e seat
