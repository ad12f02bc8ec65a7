use Rattle.room_history.proofs.laws.sessions_see_their_match.Goals as goal
use Rattle.room_history.proofs.Seeing.{sees_match}
use Rattle.room_history.proofs.News.{tells_sight}

pub returns-clause-seen : goal.returns-clause-seen
returns-clause-seen g c = sees_match g.X.Game.rules

pub returns-clause-told : goal.returns-clause-told
returns-clause-told g c = tells_sight
