use Rattle.hall_history.proofs.laws.scripts_print_what_is_sent.Goals as goal
use Rattle.hall_history.proofs.Clauses.{all_handed}

pub returns : goal.returns
returns g c = all_handed g.X.Game.rules
