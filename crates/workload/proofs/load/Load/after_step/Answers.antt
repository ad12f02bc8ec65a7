use Rattle.std.proofs.Common.{◌≡◌, ◌+◌, true, subst, arith, ◌==◌, ◌&&◌, ◌%◌}
use Rattle.std.proofs.lemmas.Bool.Decides.{nat_tests}
use Rattle.workload.specs.IsLoad.{IsLoad}
use Rattle.workload.proofs.Stepping.{new_round}
use Rattle.workload.proofs.load.Load.after_step.Goals as goal
use Rattle.std.specs.Prelude.{not}
use Rattle.world_history.specs.Workload.{round_steps}

pub returns-in_ok-begin_round : goal.returns-in_ok-begin_round
returns-in_ok-begin_round c = λ tape words lines l below is.
    let anew : ((c.args.done % round_steps == 0) && not (c.args.left == 0)) ≡ true = grind (arith, nat_tests) in
    subst (IsLoad tape words (lines + 42) c.begin_round.new.self) (new_round tape words c.args.done c.args.left l anew)
    (c.in_ok-begin_round.ensures tape words lines _ below (c.in_ok-end_round.ensures tape words lines l is))
