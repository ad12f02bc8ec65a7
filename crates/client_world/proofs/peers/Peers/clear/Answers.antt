use Rattle.std.proofs.Common.{subst, sym}
use Rattle.client_world.specs.Peers.{ArePeers}
use Rattle.client_world.proofs.PeerLaws.{cleared}
use Rattle.client_world.proofs.Peering.{found}
use Rattle.client_world.proofs.peers.Peers.clear.Goals as goal

pub returns : goal.returns
returns c = λ w are.
    let peers = c.self.inside.each.items in
    let held = subst (λ x. ArePeers x w) (sym c.self.view_is) are in
    let is = found w c.args.client peers c.index_mut.result.now held c.requires c.index_mut.ensures.value in
    cleared w c.args.client peers held c.index_mut.result.now is c.clear.new.self c.clear.ensures
