use Rattle.hall_history.proofs.laws.lines_add_their_own_calls.Goals as goal
use Rattle.hall_history.proofs.Giving.{line_adds}
use Rattle.hall_history.proofs.Opens.{open_adds}

pub returns-clause-line : goal.returns-clause-line
returns-clause-line g c = λ named. line_adds named g.X.Game.rules

pub returns-clause-open : goal.returns-clause-open
returns-clause-open g c = λ named. open_adds named g.X.Game.rules
