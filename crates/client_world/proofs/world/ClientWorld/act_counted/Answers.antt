use Rattle.std.proofs.Common.{subst, sym}
use Rattle.std.proofs.lemmas.Result.{IfOk-weaker}
use Rattle.client_world.specs.Counted.{HasActed, TellsHeld}
use Rattle.client_world.specs.IsWorld.{HeldWorld, IsWorld}
use Rattle.client_world.proofs.Counted.{action_told}
use Rattle.client_world.proofs.world.ClientWorld.act_counted.Goals as goal

pub returns : goal.returns
returns c = λ tape w is.
    let held = subst (λ x. IsWorld tape x w) (sym c.self.view_is) is in
    let new : HeldWorld = record { hall = c.self.inside.hall; peers = c.act.new.self } in
    IfOk-weaker c.is_held.result (TellsHeld c.in_ok-acted.acted) (λ b. HasActed tape w c.args.client c.args.asked.now b new)
    (λ b told. action_told tape w c.args.client new c.args.asked.now c.in_ok-acted.acted b told (c.in_ok-acted.ensures w held.peers) held.hall) c.is_held.ensures
