use Rattle.bot_sitter.proofs.Asking.{above_last, asked_shown}
use Rattle.bot_sitter.proofs.sitter.Sitter.settled.Goals as goal

pub returns-clause-shown : goal.returns-clause-shown
returns-clause-shown g c = λ fed may s e. asked_shown c.args.self.now.last c.args.self.now.client _ s may e (c.heard.ensures.agrees fed)

pub returns-clause-above : goal.returns-clause-above
returns-clause-above g c = λ may s e. above_last c.args.self.now.last c.args.self.now.client s may e
