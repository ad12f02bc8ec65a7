use Rattle.std.proofs.Common.{arith}
use Rattle.door_serve.proofs.Gathering.{as_many_dealt}
use Rattle.door_serve.proofs.serving.set_up_bench.Goals as goal

pub returns-clause-many : goal.returns-clause-many
returns-clause-many c =
    let dealt = c.in_ok-bench.ensures.passes in
    let many = as_many_dealt _ dealt.0 _ c.from.result dealt.2 in
    omega (arith, many, c.from.ensures, c.in_ok-bench.passes.ok)
