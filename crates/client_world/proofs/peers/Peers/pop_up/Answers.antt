use Rattle.std.proofs.Common.{subst, sym}
use Rattle.client_world.specs.Peers.{ArePeers}
use Rattle.client_world.proofs.PeerLaws.{popped}
use Rattle.client_world.proofs.Peering.{found}
use Rattle.client_world.proofs.peers.Peers.pop_up.Goals as goal

pub returns : goal.returns
returns c = λ w are.
    let peers = c.self.inside.each.items in
    let held = subst (λ x. ArePeers x w) (sym c.self.view_is) are in
    let is = found w c.args.client peers c.index_mut.result.now held c.requires c.index_mut.ensures.value in
    popped w c.args.client peers held c.index_mut.result.now is (λ line. line.items) c.pop.result c.pop.new.self c.pop.ensures.line c.pop.ensures.none
