use Rattle.link_rounds.proofs.Deals.{whole_part}
use Rattle.link_rounds.proofs.dealing.last_part.Goals as goal

pub returns-clause-whole : goal.returns-clause-whole
returns-clause-whole c one = whole_part c.args.services c.args.workers one
