use Rattle.std.proofs.Common.{arith, map, rules}
use Rattle.std.proofs.lemmas.Grind.{common_steps}
use Rattle.link_rounds.proofs.Deals.{map_same}
use Rattle.link_rounds.proofs.serving.run_all.Goals as goal

pub returns-clause-numbers : goal.returns-clause-numbers
returns-clause-numbers g c =
    map_same (λ w. map (λ p. g.S.Service.number p.service) w.bench.places.items) c.args.workers.now c.for_each_mut.new.s c.for_each_mut.auto.s
    (λ k d low. first_of (grind (arith, common_steps), search rules, grind arith))
