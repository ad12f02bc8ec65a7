use Rattle.std.proofs.Common.{◌∙◌, subst, sym, Some}
use Rattle.any_game.specs.GameKind.{GameKind}
use Rattle.client_world.specs.Counted.{after}
use Rattle.client_world.specs.IsWorld.{IsWorld}
use Rattle.world_history.specs.Workload.{Place}
use Rattle.world_history.specs.World.{Attaches}
use Rattle.wire_json.specs.declared.protocol.Protocol.TheVariants.{One}
use Rattle.workload.specs.IsLoad.{HeldLoad, IsLoad}
use Rattle.workload.proofs.Loads.{attached}
use Rattle.workload.proofs.Rounds.{is_place, same_item}
use Rattle.workload.proofs.load.Load.attach.Goals as goal

pub returns-clause-goes : goal.returns-clause-goes
returns-clause-goes c = λ tape words lines l place is there.
    let old : HeldLoad = record { world = c.self.inside.world; places = c.self.inside.places.items; tape = c.self.inside.tape; counts = c.self.inside.counts } in
    let held = subst (λ x. IsLoad tape words lines x l) (sym c.self.view_is) is in
    let here = is_place c.in_ok-game.game c.name-name.result c.seat.result c.place-place.result.now place (c.in_ok-game.ensures ∙ c.game.ensures) c.name-name.ensures c.seat.ensures
    (same_item _ _ _ c.place-place.ensures there) in
    attached tape words lines old l held c.attach.new.self c.args.client place.game place.name (Some place.seat) One
    (subst (λ (p : Place GameKind). IsWorld tape c.attach.new.self (after tape l.world (Attaches c.args.client p.game p.name (Some p.seat) One))) here
    (c.in_ok-text.ensures tape l.world held.world).stands)
