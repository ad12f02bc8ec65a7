-- By recursion on the statement.
use Rattle.code_laws.proofs.BoundLaws.{performed_keeps}
use Rattle.code_laws.proofs.laws.code_keeps_bounds.Goals as goal

pub returns : goal.returns
returns c = λ s table words is. performed_keeps c.args.piece.now s table words is
