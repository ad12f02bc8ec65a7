-- By recursion on the expression.
use Rattle.code_laws.proofs.SightLaws.{same_value}
use Rattle.code_laws.proofs.laws.same_in_view.Goals as goal

pub returns : goal.returns
returns c = λ s work locals mover. same_value s c.args.table.now work c.args.seat mover c.args.expression.now locals c.requires
