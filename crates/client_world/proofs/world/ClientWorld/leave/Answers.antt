use Rattle.std.proofs.Common.{◌≡◌, subst, sym}
use Rattle.std.proofs.lemmas.Result.{IfOk-weaker}
use Rattle.world_history.specs.World.{Leaves}
use Rattle.client_world.specs.IsWorld.{HasDone, HeldWorld, IsWorld}
use Rattle.client_world.specs.Outcomes.{leaving_text}
use Rattle.client_world.proofs.Doing.{left}
use Rattle.client_world.proofs.world.ClientWorld.leave.Goals as goal

pub returns : goal.returns
returns c = λ tape w is.
    let held = subst (λ x. IsWorld tape x w) (sym c.self.view_is) is in
    let new : HeldWorld = record { hall = c.leave-told.new.self; peers = c.self.inside.peers } in
    let l = c.leave-told.ensures tape w.hall held.hall in
    IfOk-weaker c.leaving_text.result (λ text. text.items ≡ leaving_text c.leave-told.result) (λ text. HasDone tape w (Leaves c.args.name c.args.seat) new text.items)
    (λ text told. left tape w c.args.name c.args.seat new c.leave-told.result text.items l.stands held.peers l.reply told) c.leaving_text.ensures
