use Rattle.std.proofs.Common.{arith, map}
use Rattle.std.proofs.lemmas.List.{length-map}
use Rattle.link_rounds.proofs.Deals.{dealt_length, empty_by, gathered_all, gathered_on}
use Rattle.link_rounds.proofs.dealing.gather.Goals as goal

pub give_up-requires : goal.give_up-requires
give_up-requires g c =
    let n = dealt_length (λ b. map (λ p. p.service) b.places.items) c.pop.new.self.items c.loop-bench.benches.items c.in-Some.bench c.in-Some.ensures.items in
    record { room = omega (arith, n, length-map c.in-Some.bench.places.items (λ p. p.service), c.in-Some.bench.places.ok.0, c.loop-bench.invariant.1) }

pub loop-bench-preserved : goal.loop-bench-preserved
loop-bench-preserved g c =
    let n = dealt_length (λ b. map (λ p. p.service) b.places.items) c.pop.new.self.items c.loop-bench.benches.items c.in-Some.bench c.in-Some.ensures.items in (
      gathered_on (λ b. map (λ p. p.service) b.places.items) c.pop.new.self.items c.loop-bench.benches.items c.in-Some.bench c.loop-bench.services.items c.give_up.new.services.items _ c.in-Some.ensures.items c.give_up.ensures.services c.loop-bench.invariant.0,
      omega (arith, n, length-map c.in-Some.bench.places.items (λ p. p.service), c.in-Some.bench.places.ok.0, c.loop-bench.invariant.1, c.give_up.ensures.len, c.give_up.ensures.capacity),
    )

pub returns : goal.returns
returns g c =
    let e = c.in_default.ensures in
    gathered_all (λ b. map (λ p. p.service) b.places.items) c.loop-bench.benches.items c.loop-bench.services.items _ (empty_by c.loop-bench.benches.len c.loop-bench.benches.items c.loop-bench.benches.ok.0 e.cases.0) c.loop-bench.invariant.0
