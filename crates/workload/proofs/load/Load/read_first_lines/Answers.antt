use Rattle.std.proofs.Common.{◌<◌, ◌≤◌, ◌+◌, ◌*◌, ◌^◌, ◌∙◌, List, length, refl, sym, ap, subst, arith}
use Rattle.any_game.specs.AnyRules.{any_rules, named}
use Rattle.any_game.specs.GameKind.{GameKind}
use Rattle.world_history.specs.Workload.{Place, first_reads}
use Rattle.workload.proofs.Loads.{fewer}
use Rattle.workload.proofs.Rounds.{Go, item_at, none_after, first_reads_next, underway_first, underway_last, underway_reads}
use Rattle.workload.specs.IsLoad.{reads_first}
use Rattle.workload.proofs.load.Load.read_first_lines.Goals as goal

pub loop-client-init : goal.loop-client-init
loop-client-init c = record {
  keeps = refl;
  goes = λ tape words lines w below is.
      underway_first tape words (lines + 3 * 0) _ w (first_reads named any_rules tape 0 w.places) (fewer tape words lines (lines + 3 * 0) _ w (omega arith) is);
}

-- one more
pub loop-client-preserved : goal.loop-client-preserved
loop-client-preserved c =
    let so_far = c.loop-client.invariant in
    record {
      keeps = c.in_ok-read_first_line.ensures.keeps ∙ so_far.keeps;
      goes = λ tape words lines w below is.
          let u = so_far.goes tape words lines w below is in
          let same = u.stands.places ∙ u.same in
          let here = item_at w.places c.loop-client.client (subst (λ places. c.loop-client.client < length places) same (subst (λ places. c.loop-client.client < length places) (sym so_far.keeps) (omega (arith, c.loop-client-test.true, c.count-client-end.ensures.value)))) in
          let within : lines + 3 * c.loop-client.client + 3 ≤ 2 ^ 64 = omega (arith, below, c.loop-client-test.true, c.count-client-end.ensures.few) in
          underway_reads tape words (lines + 3 * c.loop-client.client) (lines + 3 * (c.loop-client.client + 1)) c.loop-client.self c.read_first_line.new.self w.places _ _ _ _ u
          (first_reads_next tape w.places c.loop-client.client here.0 here.2)
          (fewer tape words (lines + 3 * c.loop-client.client + 3) (lines + 3 * (c.loop-client.client + 1)) _ (Go tape (reads_first c.loop-client.client) u.at) (omega arith)
          (c.in_ok-read_first_line.ensures.goes tape words (lines + 3 * c.loop-client.client) u.at within u.stands));
    }

-- none is left
pub returns : goal.returns
returns c = λ tape words lines w below is.
    let u = c.loop-client.invariant.goes tape words lines w below is in
    fewer tape words (lines + 3 * c.loop-client.client) (lines + 42) _ _ (omega (arith, c.loop-client.auto.client-end, c.count-client-end.ensures.few))
    (underway_last tape words (lines + 3 * c.loop-client.client) c.loop-client.self w.places _ _ u
    (ap (λ ps. first_reads named any_rules tape c.loop-client.client ps) (none_after w.places c.loop-client.client
    (omega (arith, c.loop-client-test.false, c.count-client-end.ensures.value, ap (λ (ps : List (Place GameKind)). length ps) is.places)))))
