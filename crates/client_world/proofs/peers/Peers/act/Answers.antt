use Rattle.std.proofs.Common.{set, subst, sym}
use Rattle.std.proofs.lemmas.Result.{IfOk-weaker}
use Rattle.client_world.specs.Outcomes.{Acted, PeerActs}
use Rattle.client_world.specs.Peers.{ArePeers}
use Rattle.client_world.proofs.PeerLaws.{acted_peer}
use Rattle.client_world.proofs.Peering.{found}
use Rattle.client_world.proofs.peers.Peers.act.Goals as goal

pub returns : goal.returns
returns c = λ w are.
    let peers = c.self.inside.each.items in
    let held = subst (λ x. ArePeers x w) (sym c.self.view_is) are in
    let is = found w c.args.client peers c.index_mut.result.now held c.requires.client c.index_mut.ensures.value in
    IfOk-weaker c.act.result (λ told. PeerActs c.index_mut.result.now c.args.asked.now told c.act.new.self) (λ told. Acted w c.args.client c.args.asked.now told (set peers c.args.client c.act.new.self))
    (λ told h. acted_peer w c.args.client peers held c.args.asked.now told c.act.new.self (subst (λ x. PeerActs x c.args.asked.now told c.act.new.self) is h)) c.act.ensures
