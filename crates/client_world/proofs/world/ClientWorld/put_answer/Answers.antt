use Rattle.std.proofs.Common.{◌≡◌, ◌++◌, ◌∙◌, length, arith, subst, sym}
use Rattle.std.proofs.lemmas.Result.{on_ok_weaker}
use Rattle.world_history.specs.World.{with_down}
use Rattle.client_world.specs.IsWorld.{IsWorld}
use Rattle.client_world.specs.Peers.{ArePeers}
use Rattle.client_world.proofs.Doing.{is_none, is_some, no_answer, one_answer}
use Rattle.client_world.proofs.Peering.{nothing_put}
use Rattle.client_world.proofs.world.ClientWorld.put_answer.Goals as goal

pub returns-then-is_empty : goal.returns-then-is_empty
returns-then-is_empty c = λ tape w answer is said.
    let counted : c.args.line.len ≡ length c.args.line.items = omega (arith, c.args.line.ok.0) in
    let none = no_answer answer (sym said ∙ is_none c.args.line.len c.args.line.items counted (sym c.is_empty.ensures ∙ c.if-is_empty.true)) in
    record {
      hall = is.hall;
      peers = subst (λ ls. ArePeers c.args.self.now.peers (with_down w c.args.client (w.down c.args.client ++ ls))) (sym none) (nothing_put w c.args.client c.args.self.now.peers is.peers);
    }

pub returns : goal.returns
returns c = λ tape w answer is said.
    let held = subst (λ x. IsWorld tape x w) (sym c.self.view_is) is in
    let counted : c.args.line.len ≡ length c.args.line.items = omega (arith, c.args.line.ok.0) in
    let one = one_answer answer c.args.line.items said (is_some c.args.line.len c.args.line.items counted (sym c.is_empty.ensures ∙ c.if-is_empty.false)) in
    on_ok_weaker c.push_down.result
    (λ are. record { hall = held.hall; peers = subst (λ ls. ArePeers c.push_down.new.self (with_down w c.args.client (w.down c.args.client ++ ls))) (sym one) are }) (c.push_down.ensures w held.peers)
