use Rattle.hall_history.proofs.laws.lists_have_the_rows_of_the_standing_matches.Goals as goal
use Rattle.hall_history.proofs.Listing.{lists_change_nothing, rows_listed}

pub returns-clause-answer : goal.returns-clause-answer
returns-clause-answer g c = λ named. rows_listed named g.X.Game.rules

pub returns-clause-rooms : goal.returns-clause-rooms
returns-clause-rooms g c = λ named. lists_change_nothing named g.X.Game.rules
