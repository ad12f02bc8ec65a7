use Rattle.game_sheet.proofs.Fits.{fits}
use Rattle.game_sheet.proofs.check.unbroken.Goals as goal

pub returns-clause-fits : goal.returns-clause-fits
returns-clause-fits c = fits c.args.sheet.now c.requires
