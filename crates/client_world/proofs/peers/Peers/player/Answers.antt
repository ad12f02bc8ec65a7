use Rattle.std.proofs.Common.{◌∙◌, ap, subst, sym}
use Rattle.client_world.specs.Peers.{ArePeers}
use Rattle.client_world.specs.declared.peer.Peer.{Peer}
use Rattle.client_world.proofs.Peering.{found}
use Rattle.client_world.proofs.peers.Peers.player.Goals as goal

pub returns : goal.returns
returns c = λ w are.
    let peers = c.self.inside.each.items in
    let held = subst (λ x. ArePeers x w) (sym c.self.view_is) are in
    let is = found w c.args.client peers c.index.result.now held c.requires c.index.ensures in
    c.as_ref.ensures.value ∙ ap (λ (x : Peer). x.player) is
