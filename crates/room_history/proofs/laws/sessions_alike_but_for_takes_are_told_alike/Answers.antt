use Rattle.room_history.proofs.laws.sessions_alike_but_for_takes_are_told_alike.Goals as goal
use Rattle.room_history.proofs.Clauses.{are_told_alike}

-- the law
pub returns : goal.returns
returns g c = are_told_alike g.X.Game.rules g.Y.Game.rules
