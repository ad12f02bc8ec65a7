use Rattle.std.proofs.Common.{◌≡◌, ◌+◌, ◌==◌, nat_le, true, false, arith}
use Rattle.std.proofs.lemmas.Bool.Decides.{nat_tests}
use Rattle.std.proofs.lemmas.Result.{on_ok_weaker}
use Rattle.workload.proofs.Stepping.{goes_as, is_above, is_eight, is_eleven, is_four, is_three}
use Rattle.workload.proofs.load.Load.go.Goals as goal

pub returns-then-deed-eq3 : goal.returns-then-deed-eq3
returns-then-deed-eq3 c = λ tape words lines l word below is first.
    let t0 : nat_le c.args.deed 2 ≡ false = grind (arith, nat_tests) in
    let t1 : (c.args.deed == 3) ≡ true = grind (arith, nat_tests) in
    on_ok_weaker c.act_as.result (λ done. goes_as tape words (lines + 1) c.act_as.new.self l c.args.client c.args.deed word _ t0 (is_three l.world c.args.client word c.args.deed t0 t1) done)
    (c.act_as.ensures tape words lines l below is)

pub returns-then-deed-eq4 : goal.returns-then-deed-eq4
returns-then-deed-eq4 c = λ tape words lines l word below is first.
    let t0 : nat_le c.args.deed 2 ≡ false = grind (arith, nat_tests) in
    let t1 : (c.args.deed == 3) ≡ false = grind (arith, nat_tests) in
    let t2 : (c.args.deed == 4) ≡ true = grind (arith, nat_tests) in
    on_ok_weaker c.act_as-then-deed-eq4.result (λ done. goes_as tape words (lines + 1) c.act_as-then-deed-eq4.new.self l c.args.client c.args.deed word _ t0 (is_four l.world c.args.client word c.args.deed t0 t1 t2) done)
    (c.act_as-then-deed-eq4.ensures tape words lines l below is)

pub returns-then-deed-le8 : goal.returns-then-deed-le8
returns-then-deed-le8 c = λ tape words lines l word below is first.
    let t0 : nat_le c.args.deed 2 ≡ false = grind (arith, nat_tests) in
    let t1 : (c.args.deed == 3) ≡ false = grind (arith, nat_tests) in
    let t2 : (c.args.deed == 4) ≡ false = grind (arith, nat_tests) in
    let t3 : nat_le c.args.deed 8 ≡ true = grind (arith, nat_tests) in
    on_ok_weaker c.arrive.result (λ done. goes_as tape words (lines + 1) c.arrive.new.self l c.args.client c.args.deed word _ t0 (is_eight l.world c.args.client word c.args.deed t0 t1 t2 t3) done)
    (c.arrive.ensures.goes tape words lines l below is)

pub returns-then-deed-le11 : goal.returns-then-deed-le11
returns-then-deed-le11 c = λ tape words lines l word below is first.
    let t0 : nat_le c.args.deed 2 ≡ false = grind (arith, nat_tests) in
    let t1 : (c.args.deed == 3) ≡ false = grind (arith, nat_tests) in
    let t2 : (c.args.deed == 4) ≡ false = grind (arith, nat_tests) in
    let t3 : nat_le c.args.deed 8 ≡ false = grind (arith, nat_tests) in
    let t4 : nat_le c.args.deed 11 ≡ true = grind (arith, nat_tests) in
    on_ok_weaker c.take.result (λ done. goes_as tape words (lines + 1) c.take.new.self l c.args.client c.args.deed word _ t0 (is_eleven l.world c.args.client word c.args.deed t0 t1 t2 t3 t4) done)
    (c.take.ensures.goes tape words lines l below is)

pub returns-else-deed-le11 : goal.returns-else-deed-le11
returns-else-deed-le11 c = λ tape words lines l word below is first.
    let t0 : nat_le c.args.deed 2 ≡ false = grind (arith, nat_tests) in
    let t1 : (c.args.deed == 3) ≡ false = grind (arith, nat_tests) in
    let t2 : (c.args.deed == 4) ≡ false = grind (arith, nat_tests) in
    let t3 : nat_le c.args.deed 8 ≡ false = grind (arith, nat_tests) in
    let t4 : nat_le c.args.deed 11 ≡ false = grind (arith, nat_tests) in
    on_ok_weaker c.read.result (λ done. goes_as tape words (lines + 1) c.read.new.self l c.args.client c.args.deed word _ t0 (is_above l.world c.args.client word c.args.deed t0 t1 t2 t3 t4) done)
    (c.read.ensures.goes tape words lines l below is)
