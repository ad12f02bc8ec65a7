use Rattle.hall_history.proofs.laws.halls_agree_with_their_rooms.Goals as goal
use Rattle.hall_history.proofs.Opens.{open_placed}
use Rattle.hall_history.proofs.Placing.{empty_placed, frees_placed, line_placed}

pub returns-clause-empty : goal.returns-clause-empty
returns-clause-empty g c = empty_placed g.X.Game.rules

pub returns-clause-line : goal.returns-clause-line
returns-clause-line g c = λ named. line_placed named g.X.Game.rules

pub returns-clause-call : goal.returns-clause-call
returns-clause-call g c = frees_placed g.X.Game.rules

pub returns-clause-open : goal.returns-clause-open
returns-clause-open g c = λ named. open_placed named g.X.Game.rules
