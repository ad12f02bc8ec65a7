use Rattle.std.proofs.Common.{◌≡◌, ◌∙◌, ap, subst, sym}
use Rattle.std.proofs.lemmas.Result.{IfOk-weaker}
use Rattle.world_history.specs.Words.{of_client}
use Rattle.world_history.specs.World.{Acts}
use Rattle.client_world.specs.IsWorld.{HasDone, HeldWorld, IsWorld}
use Rattle.client_world.proofs.Doing.{acted}
use Rattle.client_world.proofs.world.ClientWorld.act.Goals as goal

pub returns : goal.returns
returns c = λ tape w is.
    let held = subst (λ x. IsWorld tape x w) (sym c.self.view_is) is in
    let new : HeldWorld = record { hall = c.self.inside.hall; peers = c.act.new.self } in
    IfOk-weaker c.told.result (λ text. text.items ≡ of_client c.args.client c.acted_word.result.now) (λ text. HasDone tape w (Acts c.args.client c.args.asked.now) new text.items)
    (λ text told. acted tape w c.args.client new text.items c.args.asked.now c.in_ok-acted.acted (c.in_ok-acted.ensures w held.peers) held.hall (told ∙ ap (of_client c.args.client) c.acted_word.ensures)) c.told.ensures
