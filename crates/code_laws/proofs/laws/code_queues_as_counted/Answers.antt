-- By recursion on the statement.
use Rattle.code_laws.proofs.CountLaws.{performed_queues}
use Rattle.code_laws.proofs.laws.code_queues_as_counted.Goals as goal

pub returns : goal.returns
returns c = λ s table words. performed_queues c.args.piece.now s table words c.requires
