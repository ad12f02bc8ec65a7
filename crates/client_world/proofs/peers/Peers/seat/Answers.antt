use Rattle.std.proofs.Common.{subst, sym}
use Rattle.std.proofs.lemmas.Result.{on_ok_weaker}
use Rattle.client_world.specs.Peers.{ArePeers}
use Rattle.client_world.proofs.PeerLaws.{seated}
use Rattle.client_world.proofs.peers.Peers.seat.Goals as goal

pub returns : goal.returns
returns c = λ w are.
    on_ok_weaker c.seat.result
    (seated w c.args.client c.self.inside.each.items (subst (λ x. ArePeers x w) (sym c.self.view_is) are) c.args.player c.args.line.items c.seat.new.self) c.seat.ensures
