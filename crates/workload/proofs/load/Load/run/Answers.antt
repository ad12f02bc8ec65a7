use Rattle.std.proofs.Common.{◌≡◌, ◌≤◌, ◌<◌, ◌+◌, ◌*◌, ◌^◌, ◌-◌, suc, arith, subst}
use Rattle.any_game.specs.AnyRules.{any_rules, named}
use Rattle.world_history.specs.Workload.{begins_round, steps_from, takes_step}
use Rattle.workload.proofs.Loads.{fewer}
use Rattle.workload.proofs.Stepping.{StepsLeft, steps_first, steps_last, steps_next}
use Rattle.workload.proofs.load.Load.run.Goals as goal

pub loop-done-init : goal.loop-done-init
loop-done-init c = λ tape words w is.
    let all : c.args.steps ≡ c.args.steps - 0 = omega arith in
    subst (λ n. StepsLeft tape words (42 + 43 * 0) c.begin_round.new.self 0 n (steps_from named any_rules tape words 0 c.args.steps (begins_round named any_rules tape w))) all
    (steps_first tape words (42 + 43 * 0) _ (begins_round named any_rules tape w) c.args.steps (c.in_ok-begin_round.ensures tape words 0 w (omega arith) is))

-- one step more
pub loop-done-preserved : goal.loop-done-preserved
loop-done-preserved c = λ tape words w is.
    let u = c.loop-done.invariant tape words w is in
    let lines = 42 + 43 * c.loop-done.done in
    let after = 42 + 43 * (c.loop-done.done + 1) in
    let rest : c.args.steps - c.loop-done.done - 1 ≡ c.args.steps - (c.loop-done.done + 1) = omega arith in
    let left : c.args.steps - c.loop-done.done ≡ suc (c.args.steps - c.loop-done.done - 1) = omega arith in
    let below : lines < 2 ^ 64 = omega (arith, c.loop-done-test.true, c.ranges.steps.fits) in
    let room : lines + 1 + 42 ≤ 2 ^ 64 = omega (arith, c.loop-done-test.true, c.ranges.steps.fits) in
    subst (λ n. StepsLeft tape words after c.after_step.new.self (c.loop-done.done + 1) n (steps_from named any_rules tape words 0 c.args.steps (begins_round named any_rules tape w))) rest
    (steps_next tape words lines after c.loop-done.self c.after_step.new.self c.loop-done.done (c.args.steps - c.loop-done.done) (c.args.steps - c.loop-done.done - 1) _ u left
    (fewer tape words (lines + 1 + 42) after _ _ (omega arith)
    (c.in_ok-after_step.ensures tape words (lines + 1) (takes_step named any_rules tape words u.at) room (c.in_ok-take_step.ensures tape words lines u.at below u.stands))))

-- none is left
pub returns : goal.returns
returns c = λ tape words w is.
    fewer tape words (42 + 43 * c.loop-done.done) (42 + 43 * c.args.steps) _ _ (omega (arith, c.loop-done.auto.done-end))
    (steps_last tape words (42 + 43 * c.loop-done.done) c.loop-done.self c.loop-done.done (c.args.steps - c.loop-done.done) _ (c.loop-done.invariant tape words w is) (omega arith))
