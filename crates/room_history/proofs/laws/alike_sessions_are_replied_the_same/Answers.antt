use Rattle.room_history.proofs.laws.alike_sessions_are_replied_the_same.Goals as goal
use Rattle.room_history.proofs.Responses.{replied_alike}

pub returns : goal.returns
returns g c = replied_alike g.X.Game.rules g.Y.Game.rules
