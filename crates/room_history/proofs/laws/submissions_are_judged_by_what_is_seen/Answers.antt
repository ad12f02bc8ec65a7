use Rattle.room_history.proofs.laws.submissions_are_judged_by_what_is_seen.Goals as goal
use Rattle.room_history.proofs.Judging.{sees_present, is_judged}

pub returns-clause-seen : goal.returns-clause-seen
returns-clause-seen g c = sees_present g.X.Game.rules

pub returns-clause-judged : goal.returns-clause-judged
returns-clause-judged g c = is_judged g.X.Game.rules
