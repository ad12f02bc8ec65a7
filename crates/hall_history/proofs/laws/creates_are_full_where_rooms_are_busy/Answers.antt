use Rattle.hall_history.proofs.laws.creates_are_full_where_rooms_are_busy.Goals as goal
use Rattle.hall_history.proofs.Filling.{full_only, full_where}

pub returns-clause-only : goal.returns-clause-only
returns-clause-only g c = λ named. full_only named g.X.Game.rules

pub returns-clause-where_busy : goal.returns-clause-where_busy
returns-clause-where_busy g c = λ named. full_where named g.X.Game.rules
