use Rattle.std.proofs.Common.{subst, sym}
use Rattle.std.proofs.lemmas.Result.{on_ok_weaker}
use Rattle.game_sheet.specs.Lines.{lines}
use Rattle.client_world.specs.Peers.{ArePeers}
use Rattle.client_world.proofs.PeerLaws.{pushed_down}
use Rattle.client_world.proofs.Peering.{found}
use Rattle.client_world.proofs.peers.Peers.push_all_down.Goals as goal

pub returns : goal.returns
returns c = λ w are.
    let peers = c.self.inside.each.items in
    let held = subst (λ x. ArePeers x w) (sym c.self.view_is) are in
    let is = found w c.args.client peers c.index_mut.result.now held c.requires c.index_mut.ensures.value in
    on_ok_weaker c.put_lines.result (pushed_down w c.args.client peers held c.index_mut.result.now is c.put_lines.new.link (lines c.args.bytes.now)) c.put_lines.ensures
