use Rattle.std.proofs.Common.{◌≡◌, codes, subst, sym}
use Rattle.std.proofs.lemmas.Result.{IfOk-weaker}
use Rattle.any_game.specs.AnyRules.{any_rules}
use Rattle.hall_history.specs.Freeing.{frees}
use Rattle.world_history.specs.Words.{of_client}
use Rattle.world_history.specs.World.{Takes, with_hall}
use Rattle.room_history.specs.declared.call.RoomCall.TheVariants.{Take}
use Rattle.client_world.specs.IsWorld.{HasDone, HeldWorld, IsWorld}
use Rattle.client_world.specs.Outcomes.{HandsReply}
use Rattle.client_world.proofs.Doing.{took, unattached}
use Rattle.client_world.proofs.world.ClientWorld.take.Goals as goal

pub returns-in-Some : goal.returns-in-Some
returns-in-Some c = λ tape w is.
    let held = subst (λ x. IsWorld tape x w) (sym c.self.view_is) is in
    let free = c.in-Some.ensures tape w.hall held.hall in
    let after = with_hall w (frees any_rules w.hall c.args.client Take).0 in
    IfOk-weaker c.taken.result (λ text. HandsReply tape after c.args.client c.in-Some.reply c.taken.new.self text.items) (λ text. HasDone tape w (Takes c.args.client) c.taken.new.self text.items)
    (λ text h. took tape w c.args.client c.taken.new.self text.items c.in-Some.reply free.reply h) (c.taken.ensures tape after (record { hall = free.stands; peers = held.peers }))

pub returns-in-None : goal.returns-in-None
returns-in-None c = λ tape w is.
    let held = subst (λ x. IsWorld tape x w) (sym c.self.view_is) is in
    let new : HeldWorld = record { hall = c.take.new.self; peers = c.self.inside.peers } in
    let free = c.in-None.ensures tape w.hall held.hall in
    IfOk-weaker c.told.result (λ text. text.items ≡ of_client c.args.client (codes "unattached")) (λ text. HasDone tape w (Takes c.args.client) new text.items)
    (λ text told. unattached tape w c.args.client new text.items free.reply free.stands held.peers told) c.told.ensures
