use Rattle.world_history.proofs.Delivering.{all_delivered}
use Rattle.world_history.proofs.laws.worlds_deliver_what_is_sent.Goals as goal

pub returns : goal.returns
returns g c = all_delivered g.X.Game.rules
