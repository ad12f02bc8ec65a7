use Rattle.std.proofs.Common.{◌<◌, ◌∙◌, List, length, refl, sym, ap, subst, arith}
use Rattle.std.specs.Prelude.{slice_get}
use Rattle.any_game.specs.AnyRules.{any_rules, named}
use Rattle.any_game.specs.GameKind.{GameKind}
use Rattle.world_history.specs.Workload.{Place, attachings}
use Rattle.workload.proofs.Rounds.{item_at, none_after, attachings_next, underway_first, underway_last, underway_next}
use Rattle.workload.proofs.load.Load.attach_all.Goals as goal

pub loop-client-init : goal.loop-client-init
loop-client-init c = record { keeps = refl; goes = λ tape words lines w is. underway_first tape words lines _ w (attachings named any_rules tape 0 w.places) is }

-- one more
pub loop-client-preserved : goal.loop-client-preserved
loop-client-preserved c =
    let so_far = c.loop-client.invariant in
    record {
      keeps = c.in_ok-attach.ensures.keeps ∙ so_far.keeps;
      goes = λ tape words lines w is.
          let u = so_far.goes tape words lines w is in
          let same = u.stands.places ∙ u.same in
          let here = item_at w.places c.loop-client.client (subst (λ places. c.loop-client.client < length places) same (subst (λ places. c.loop-client.client < length places) (sym so_far.keeps) (omega (arith, c.loop-client-test.true, c.count-client-end.ensures.value)))) in
          underway_next tape words lines lines c.loop-client.self c.attach.new.self w.places _ _ _ _ u (attachings_next tape w.places c.loop-client.client here.0 here.2)
          (c.in_ok-attach.ensures.goes tape words lines u.at here.0 u.stands (ap (λ places. slice_get places c.loop-client.client) same ∙ here.1));
    }

-- none is left
pub returns : goal.returns
returns c = λ tape words lines w is.
    let u = c.loop-client.invariant.goes tape words lines w is in
    underway_last tape words lines c.loop-client.self w.places _ _ u
    (ap (λ ps. attachings named any_rules tape c.loop-client.client ps) (none_after w.places c.loop-client.client (omega (arith, c.loop-client-test.false, c.count-client-end.ensures.value, ap (λ (ps : List (Place GameKind)). length ps) is.places))))
