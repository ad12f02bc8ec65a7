use Rattle.std.proofs.Common.{subst, sym}
use Rattle.hall_history.specs.Mark.{Served}
use Rattle.client_world.specs.IsWorld.{IsWorld}
use Rattle.client_world.proofs.world.ClientWorld.seed.Goals as goal

pub returns : goal.returns
returns c = λ tape w is.
    let held = subst (λ x. IsWorld tape x w) (sym c.self.view_is) is in
    record { mark = Served; stands = record { hall = c.set_seed.ensures tape w.hall held.hall; peers = held.peers }; prints = c.new.ensures.items }
