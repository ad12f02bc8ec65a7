use Rattle.std.proofs.Common.{◌<◌, ◌∙◌, List, length, refl, sym, ap, subst, arith}
use Rattle.std.specs.Prelude.{slice_get}
use Rattle.any_game.specs.AnyRules.{any_rules, named}
use Rattle.any_game.specs.GameKind.{GameKind}
use Rattle.world_history.specs.Workload.{Place, leavings}
use Rattle.workload.proofs.Rounds.{item_at, none_after, leavings_next, underway_first, underway_last, underway_next}
use Rattle.workload.proofs.load.Load.leave_all.Goals as goal

pub loop-place-init : goal.loop-place-init
loop-place-init c = record { keeps = refl; goes = λ tape words lines w is. underway_first tape words lines _ w (leavings named any_rules tape w.places) is }

-- one more
pub loop-place-preserved : goal.loop-place-preserved
loop-place-preserved c =
    let so_far = c.loop-place.invariant in
    record {
      keeps = c.in_ok-leave.ensures.keeps ∙ so_far.keeps;
      goes = λ tape words lines w is.
          let u = so_far.goes tape words lines w is in
          let same = u.stands.places ∙ u.same in
          let here = item_at w.places c.loop-place.place (subst (λ places. c.loop-place.place < length places) same (subst (λ places. c.loop-place.place < length places) (sym so_far.keeps) (omega (arith, c.loop-place-test.true, c.count-place-end.ensures.value)))) in
          underway_next tape words lines lines c.loop-place.self c.leave.new.self w.places _ _ _ _ u (leavings_next tape w.places c.loop-place.place here.0 here.2)
          (c.in_ok-leave.ensures.goes tape words lines u.at here.0 u.stands (ap (λ places. slice_get places c.loop-place.place) same ∙ here.1));
    }

-- none is left
pub returns : goal.returns
returns c = λ tape words lines w is.
    let u = c.loop-place.invariant.goes tape words lines w is in
    underway_last tape words lines c.loop-place.self w.places _ _ u
    (ap (λ ps. leavings named any_rules tape ps) (none_after w.places c.loop-place.place (omega (arith, c.loop-place-test.false, c.count-place-end.ensures.value, ap (λ (ps : List (Place GameKind)). length ps) is.places))))
