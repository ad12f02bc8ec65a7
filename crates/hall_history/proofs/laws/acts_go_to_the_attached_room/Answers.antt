use Rattle.hall_history.proofs.laws.acts_go_to_the_attached_room.Goals as goal
use Rattle.hall_history.proofs.Clauses.{act_there}

pub returns : goal.returns
returns g c = act_there
