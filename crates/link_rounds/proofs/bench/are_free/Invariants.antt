use Rattle.std.proofs.Common.{◌≡◌, ◌<◌, ℕ, false, is_some, slice_index_or}
use Rattle.link_rounds.specs.Places.{Seat}
use Rattle.link_rounds.proofs.bench.are_free.Given as goal

abbrev pub invariant-loop-at : goal.invariant-loop-at
invariant-loop-at g l = (k : ℕ) (d : Seat g.row.S.Denot g.row.D-L.Denot) → k < l.at → is_some (slice_index_or l.places k d).link ≡ false
