use Rattle.std.proofs.Common.{subst, sym}
use Rattle.client_world.specs.Outcomes.{PeerReads}
use Rattle.client_world.specs.Peers.{ArePeers}
use Rattle.client_world.proofs.PeerLaws.{read_peer}
use Rattle.client_world.proofs.Peering.{found}
use Rattle.client_world.proofs.peers.Peers.read_next.Goals as goal

pub returns : goal.returns
returns c = λ w are.
    let peers = c.self.inside.each.items in
    let held = subst (λ x. ArePeers x w) (sym c.self.view_is) are in
    let is = found w c.args.client peers c.index_mut.result.now held c.requires c.index_mut.ensures.value in
    read_peer w c.args.client peers held c.read_next.result c.read_next.new.self (subst (λ x. PeerReads x c.read_next.result c.read_next.new.self) is c.read_next.ensures)
