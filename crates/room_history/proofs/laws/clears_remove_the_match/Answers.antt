use Rattle.room_history.proofs.laws.clears_remove_the_match.Goals as goal
use Rattle.room_history.proofs.Clearing.{clears_match, clears_nothing}

pub returns-clause-cleared : goal.returns-clause-cleared
returns-clause-cleared g c = clears_match g.X.Game.rules

pub returns-clause-refused : goal.returns-clause-refused
returns-clause-refused g c = clears_nothing g.X.Game.rules
