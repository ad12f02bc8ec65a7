use Rattle.room_history.proofs.laws.sessions_are_told_their_streams.Goals as goal
use Rattle.room_history.proofs.Clauses.{are_told}
use Rattle.room_history.proofs.Sending.{sends_reply}

pub returns-clause-told : goal.returns-clause-told
returns-clause-told g c = are_told g.X.Game.rules

pub returns-clause-sent : goal.returns-clause-sent
returns-clause-sent g c = sends_reply g.X.Game.rules
