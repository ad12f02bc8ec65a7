use Rattle.hall_history.proofs.laws.scripts_print_alike_sessions_the_same.Goals as goal
use Rattle.hall_history.proofs.Clauses.{alike_handed}

pub returns : goal.returns
returns g c = alike_handed g.X.Game.rules g.Y.Game.rules
