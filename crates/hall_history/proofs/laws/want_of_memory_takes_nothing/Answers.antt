use Rattle.hall_history.proofs.laws.want_of_memory_takes_nothing.Goals as goal
use Rattle.hall_history.proofs.Giving.{answered_stays, place_back, seed_back}
use Rattle.hall_history.proofs.Keeping.{rooms_stay}

pub returns-clause-attached : goal.returns-clause-attached
returns-clause-attached g c = λ named. answered_stays named g.X.Game.rules

pub returns-clause-words : goal.returns-clause-words
returns-clause-words g c = λ named. place_back named g.X.Game.rules

pub returns-clause-seed : goal.returns-clause-seed
returns-clause-seed g c = λ named. seed_back named g.X.Game.rules

pub returns-clause-rooms : goal.returns-clause-rooms
returns-clause-rooms g c = λ named. rooms_stay named g.X.Game.rules
