use Rattle.hall_history.proofs.laws.requests_end.Goals as goal
use Rattle.hall_history.proofs.Giving.{request_ends, request_moves}

pub returns-clause-closed : goal.returns-clause-closed
returns-clause-closed g c = λ named. request_ends named g.X.Game.rules

pub returns-clause-moved : goal.returns-clause-moved
returns-clause-moved g c = λ named. request_moves named g.X.Game.rules
