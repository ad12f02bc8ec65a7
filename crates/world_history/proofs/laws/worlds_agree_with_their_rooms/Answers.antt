use Rattle.hall_history.proofs.Placing.{empty_placed}
use Rattle.world_history.proofs.WorldPlacing.{world_placed}
use Rattle.world_history.specs.World.{new_world}
use Rattle.world_history.proofs.laws.worlds_agree_with_their_rooms.Goals as goal

pub returns : goal.returns
returns g c = λ named tape rooms marks lines. world_placed named g.X.Game.rules tape marks lines (new_world rooms) (empty_placed g.X.Game.rules rooms)
