use Rattle.world_history.specs.World.{new_world}
use Rattle.world_convergence.proofs.Fitting.{new_fits, world_fits}
use Rattle.world_convergence.proofs.laws.calls_of_worlds_fit.Goals as goal

pub returns : goal.returns
returns g c = λ named tape rooms marks steps. world_fits named g.X.Game.rules tape marks steps (new_world rooms) (new_fits named g.X.Game.rules tape rooms)
