use Rattle.std.proofs.Common.{subst, sym}
use Rattle.std.proofs.lemmas.Result.{IfOk-weaker}
use Rattle.client_world.specs.Counted.{HasRead, TellsRead}
use Rattle.client_world.specs.IsWorld.{HeldWorld, IsWorld}
use Rattle.client_world.proofs.Counted.{reading_told}
use Rattle.client_world.proofs.world.ClientWorld.read_counted.Goals as goal

pub returns : goal.returns
returns c = λ tape w is.
    let held = subst (λ x. IsWorld tape x w) (sym c.self.view_is) is in
    let new : HeldWorld = record { hall = c.self.inside.hall; peers = c.read_next-heard.new.self } in
    IfOk-weaker c.was_read.result (TellsRead c.read_next-heard.result) (λ b. HasRead tape w c.args.client b new)
    (λ b told. reading_told tape w c.args.client new c.read_next-heard.result b told (c.read_next-heard.ensures w held.peers) held.hall) c.was_read.ensures
