use Rattle.std.proofs.Common.{refl, subst, sym}
use Rattle.any_game.specs.GameKind.{GameKind}
use Rattle.client_world.specs.Counted.{after}
use Rattle.client_world.specs.IsWorld.{IsWorld}
use Rattle.world_history.specs.Workload.{Place}
use Rattle.world_history.specs.World.{Leaves}
use Rattle.workload.specs.IsLoad.{HeldLoad, IsLoad}
use Rattle.workload.proofs.Loads.{left}
use Rattle.workload.proofs.Rounds.{is_place, same_item}
use Rattle.workload.proofs.load.Load.leave.Goals as goal

pub returns-clause-goes : goal.returns-clause-goes
returns-clause-goes c = λ tape words lines l seat is there.
    let old : HeldLoad = record { world = c.self.inside.world; places = c.self.inside.places.items; tape = c.self.inside.tape; counts = c.self.inside.counts } in
    let held = subst (λ x. IsLoad tape words lines x l) (sym c.self.view_is) is in
    let here = is_place c.place-found.result.now.game c.name-name.result c.seat-seat.result c.place-found.result.now seat refl c.name-name.ensures c.seat-seat.ensures
    (same_item _ _ _ c.place-found.ensures there) in
    left tape words lines old l held c.leave.new.self seat.name seat.seat
    (subst (λ (p : Place GameKind). IsWorld tape c.leave.new.self (after tape l.world (Leaves p.name p.seat))) here
    (c.in_ok-text.ensures tape l.world held.world).stands)
