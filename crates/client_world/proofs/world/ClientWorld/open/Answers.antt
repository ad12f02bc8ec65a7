use Rattle.std.proofs.Common.{◌≡◌, subst, sym}
use Rattle.std.proofs.lemmas.Result.{IfOk-weaker}
use Rattle.session_hall.specs.Answered.{made_text}
use Rattle.client_world.specs.IsWorld.{HasDone, HeldWorld, IsWorld}
use Rattle.world_history.specs.World.{Opens}
use Rattle.client_world.proofs.Doing.{opened}
use Rattle.client_world.proofs.world.ClientWorld.open.Goals as goal

pub returns : goal.returns
returns c = λ tape w is.
    let held = subst (λ x. IsWorld tape x w) (sym c.self.view_is) is in
    let new : HeldWorld = record { hall = c.«open».new.self; peers = c.self.inside.peers } in
    let o = c.in_ok-made.ensures tape w.hall held.hall in
    IfOk-weaker c.made_text.result (λ text. text.items ≡ made_text c.in_ok-made.made) (λ text. HasDone tape w (Opens c.args.game.now c.args.seats) new text.items)
    (λ text told. opened tape w c.args.game.now c.args.seats new text.items c.in_ok-made.made o.stands held.peers o.answer told) c.made_text.ensures
