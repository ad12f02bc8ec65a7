-- By recursion on the statement.
use Rattle.code_laws.proofs.SheetLaws.{performed_in_sheet}
use Rattle.code_laws.proofs.laws.code_keeps_to_sheet.Goals as goal

pub returns : goal.returns
returns c = λ s table words. performed_in_sheet c.args.sheet.now c.args.piece.now s table words c.requires
