use Rattle.std.proofs.Common.{subst, sym}
use Rattle.std.proofs.lemmas.Result.{IfOk-weaker}
use Rattle.any_game.specs.AnyRules.{any_rules}
use Rattle.hall_history.specs.Freeing.{frees}
use Rattle.world_history.specs.World.{with_hall}
use Rattle.room_history.specs.declared.call.RoomCall.TheVariants.{Take}
use Rattle.client_world.specs.Counted.{HasHandedReply, HasTaken}
use Rattle.client_world.specs.IsWorld.{HeldWorld, IsWorld}
use Rattle.client_world.proofs.Counted.{none_taken, took_counted}
use Rattle.client_world.proofs.world.ClientWorld.take_counted.Goals as goal

pub returns-in-Some : goal.returns-in-Some
returns-in-Some c = λ tape w is.
    let held = subst (λ x. IsWorld tape x w) (sym c.self.view_is) is in
    let free = c.in-Some.ensures tape w.hall held.hall in
    let after = with_hall w (frees any_rules w.hall c.args.client Take).0 in
    IfOk-weaker c.taken_counted.result (λ count. HasHandedReply tape after c.args.client c.in-Some.reply count c.taken_counted.new.self) (λ count. HasTaken tape w c.args.client count c.taken_counted.new.self)
    (λ count h. took_counted tape w c.args.client c.taken_counted.new.self c.in-Some.reply count free.reply h) (c.taken_counted.ensures tape after (record { hall = free.stands; peers = held.peers }))

pub returns-in-None : goal.returns-in-None
returns-in-None c = λ tape w is.
    let held = subst (λ x. IsWorld tape x w) (sym c.self.view_is) is in
    let new : HeldWorld = record { hall = c.take.new.self; peers = c.self.inside.peers } in
    let free = c.in-None.ensures tape w.hall held.hall in
    none_taken tape w c.args.client new free.reply free.stands held.peers
