use Rattle.room_history.proofs.laws.calls_leave_others.Goals as goal
use Rattle.room_history.proofs.Others.{take_others, detach_others, tells_refusal, want_keeps_all}

pub returns-clause-taken : goal.returns-clause-taken
returns-clause-taken g c = take_others g.X.Game.rules

pub returns-clause-detached : goal.returns-clause-detached
returns-clause-detached g c = detach_others g.X.Game.rules

pub returns-clause-refused : goal.returns-clause-refused
returns-clause-refused g c = tells_refusal g.X.Game.rules

pub returns-clause-starved : goal.returns-clause-starved
returns-clause-starved g c = want_keeps_all g.X.Game.rules
