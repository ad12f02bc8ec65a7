use Rattle.std.proofs.Common.{◌++◌, ◌∙◌, subst, sym}
use Rattle.game_sheet.specs.Lines.{lines}
use Rattle.world_history.specs.World.{with_down}
use Rattle.client_world.specs.IsWorld.{IsWorld}
use Rattle.client_world.specs.Peers.{ArePeers}
use Rattle.client_world.proofs.world.ClientWorld.hand.Goals as goal

pub returns : goal.returns
returns c = λ tape w is.
    let held = subst (λ x. IsWorld tape x w) (sym c.self.view_is) is in
    record {
      stands = record {
        hall = held.hall;
        peers = subst (λ bytes. ArePeers c.push_all_down.new.self (with_down w c.args.client (w.down c.args.client ++ lines bytes))) (c.as_slice.ensures.value ∙ c.in_ok-all.ensures)
            (c.in_ok-push_all_down.ensures w held.peers);
      };
      prints = c.new.ensures.items;
    }
