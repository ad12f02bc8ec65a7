-- By recursion on the statement.
use Rattle.code_laws.proofs.CountLaws.{performed_draws}
use Rattle.code_laws.proofs.laws.code_draws_as_counted.Goals as goal

pub returns : goal.returns
returns c = λ s table words. performed_draws c.args.piece.now s table words
