use Rattle.room_history.proofs.laws.sessions_go_on.Goals as goal
use Rattle.room_history.proofs.Clauses.{go_on}

-- the law
pub returns : goal.returns
returns g c = go_on g.X.Game.rules
