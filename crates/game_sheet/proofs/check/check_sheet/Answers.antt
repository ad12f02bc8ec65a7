use Rattle.std.proofs.Common.{rules}
use Rattle.game_sheet.specs.SheetRules.{broken}
use Rattle.game_sheet.proofs.Fits.{fits}
use Rattle.game_sheet.proofs.check.check_sheet.Goals as goal

pub returns-in-0-clause-fits : goal.returns-in-0-clause-fits
unfolding broken
returns-in-0-clause-fits c = fits c.args.sheet.now (search rules)
