use Rattle.std.proofs.Common.{◌≡◌, ◌++◌, ◌∷◌, [], drop}
use Rattle.table_states.specs.Countdown.{takes}
use Rattle.table_states.proofs.heap.Heap.takes.Given as goal

-- the takes so far, and those of the counts that are left, are those of all three
abbrev pub invariant-loop-count : goal.invariant-loop-count
invariant-loop-count l = l.offers ++ takes l.self (drop l.count-index (1 ∷ 2 ∷ 3 ∷ [])) ≡ takes l.self (1 ∷ 2 ∷ 3 ∷ [])
