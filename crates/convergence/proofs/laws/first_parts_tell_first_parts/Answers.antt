use Rattle.convergence.proofs.Streams.{part_told}
use Rattle.convergence.proofs.laws.first_parts_tell_first_parts.Goals as goal

pub returns : goal.returns
returns c = part_told
