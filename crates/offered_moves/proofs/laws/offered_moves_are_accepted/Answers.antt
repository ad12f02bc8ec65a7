use Rattle.offered_moves.proofs.Rooms.{all_accepted, all_replied}
use Rattle.offered_moves.proofs.laws.offered_moves_are_accepted.Goals as goal

pub returns-clause-accepted : goal.returns-clause-accepted
returns-clause-accepted c = all_accepted

pub returns-clause-replied : goal.returns-clause-replied
returns-clause-replied c = all_replied
