use Rattle.std.proofs.Common.{◌≡◌, ◌+◌, ◌++◌, ◌∷◌, ◌∙◌, [], length, ap, arith}
use Rattle.workload.specs.IsLoad.{HeldLoad}
use Rattle.workload.proofs.Rounds.{add_next, count_with}
use Rattle.workload.proofs.load.Load.add_places.Goals as goal

pub add_place-requires : goal.add_place-requires
add_place-requires c =
    let so_far : length c.loop-seat.self.places ≡ length c.args.self.now.places + c.loop-seat.seat =
    ap (λ (l : HeldLoad). length l.places) c.loop-seat.invariant ∙ count_with c.args.self.now.places c.args.game.now c.args.name c.loop-seat.seat in
    omega (arith, so_far, c.requires, c.loop-seat-test.true)

pub loop-seat-preserved : goal.loop-seat-preserved
loop-seat-preserved c =
    c.in_ok-add_place.ensures
    ∙ ap (λ (l : HeldLoad). record l { places = l.places ++ record { game = c.args.game.now; name = c.args.name; seat = c.loop-seat.seat } ∷ [] }) c.loop-seat.invariant
    ∙ ap (λ places. record c.args.self.now { places = places }) (add_next c.args.self.now.places c.args.game.now c.args.name c.loop-seat.seat)
