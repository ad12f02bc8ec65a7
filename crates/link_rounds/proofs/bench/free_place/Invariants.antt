use Rattle.std.proofs.Common.{vec_len}
use Rattle.link_rounds.proofs.bench.free_place.Given as goal

abbrev pub decreases-loop-number : goal.decreases-loop-number
decreases-loop-number g l = vec_len l.free
