use Rattle.std.proofs.Common.{◌≡◌, ◌+◌, ◌≤◌, ◌++◌, map, length}
use Rattle.std.specs.Prelude.{vec_len, vec_capacity}
use Rattle.link_rounds.specs.Dealing.{dealt}
use Rattle.link_rounds.proofs.dealing.gather.Given as goal

abbrev pub invariant-loop-bench : goal.invariant-loop-bench
invariant-loop-bench g l =
    (l.services.items ++ dealt (map (λ b. map (λ p. p.service) b.places.items) l.benches.items) ≡ l.fn.services.items ++ dealt (map (λ b. map (λ p. p.service) b.places.items) l.fn.benches.items))
    × (vec_len l.services + length (dealt (map (λ b. map (λ p. p.service) b.places.items) l.benches.items)) ≤ vec_capacity l.services)

abbrev pub decreases-loop-bench : goal.decreases-loop-bench
decreases-loop-bench g l = vec_len l.benches
