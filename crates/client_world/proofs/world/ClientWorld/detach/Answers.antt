use Rattle.std.proofs.Common.{subst, sym}
use Rattle.client_world.specs.IsWorld.{IsWorld}
use Rattle.client_world.proofs.world.ClientWorld.detach.Goals as goal

pub returns : goal.returns
returns c = λ tape w is.
    let held = subst (λ x. IsWorld tape x w) (sym c.self.view_is) is in
    record { hall = (c.detach-reply.ensures tape w.hall held.hall).stands; peers = held.peers }
