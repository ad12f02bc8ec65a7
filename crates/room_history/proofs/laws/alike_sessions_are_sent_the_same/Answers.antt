use Rattle.room_history.proofs.laws.alike_sessions_are_sent_the_same.Goals as goal
use Rattle.room_history.proofs.Clauses.{are_sent_alike}

-- the law
pub returns : goal.returns
returns g c = are_sent_alike g.X.Game.rules g.Y.Game.rules
