use Rattle.std.proofs.Common.{◌+◌, ◌<◌, ◌^◌, arith}
use Rattle.std.proofs.lemmas.Result.{on_ok_weaker}
use Rattle.workload.proofs.Loads.{fewer}
use Rattle.workload.proofs.load.Load.read_first_line.Goals as goal

pub returns-clause-goes : goal.returns-clause-goes
returns-clause-goes c = λ tape words lines l below is.
    let first : lines < 2 ^ 64 = omega (arith, below) in
    let second : lines + 1 < 2 ^ 64 = omega (arith, below) in
    let third : lines + 1 + 1 < 2 ^ 64 = omega (arith, below) in
    on_ok_weaker c.read.result (λ is. fewer tape words (lines + 1 + 1 + 1) (lines + 3) _ _ (omega arith) is)
    (c.read.ensures.goes tape words (lines + 1 + 1) _ third (c.in_ok-take.ensures.goes tape words (lines + 1) _ second (c.in_ok-arrive.ensures.goes tape words lines l first is)))
