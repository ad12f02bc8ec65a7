use Rattle.std.proofs.Common.{◌≡◌, ◌∙◌, replicate, ap, arith, subst, sym}
use Rattle.world_history.specs.World.{new_world}
use Rattle.client_world.specs.Peers.{ArePeers, no_peer}
use Rattle.client_world.proofs.Peering.{none_yet}
use Rattle.client_world.proofs.peers.Peers.new.Goals as goal

pub returns : goal.returns
returns c = λ rooms.
    let all : c.loop-client._client ≡ 32 = omega arith in
    subst (λ x. ArePeers x (new_world rooms)) (sym (c.loop-client.invariant.0 ∙ ap (λ n. replicate n no_peer) all)) (none_yet rooms)
