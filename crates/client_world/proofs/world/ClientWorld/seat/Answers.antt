use Rattle.std.proofs.Common.{subst, sym}
use Rattle.any_game.specs.AnyRules.{any_rules}
use Rattle.hall_history.specs.Freeing.{frees}
use Rattle.world_history.specs.World.{with_hall}
use Rattle.room_history.specs.declared.call.RoomCall.TheVariants.{Detach}
use Rattle.client_world.specs.IsWorld.{IsWorld}
use Rattle.client_world.proofs.world.ClientWorld.seat.Goals as goal

pub returns : goal.returns
returns c = λ tape w is.
    let freed = with_hall w (frees any_rules w.hall c.args.client Detach).0 in
    let held = subst (λ x. IsWorld tape x freed) (sym c.self.view_is) (c.detach.ensures tape w is) in
    (record { hall = held.hall; peers = c.in_ok-seat.ensures freed held.peers }, c.new.ensures.items)
