use Rattle.room_changes.proofs.Making.{makes}
use Rattle.room_changes.proofs.laws.changes_make_the_matches.Goals as goal

pub returns : goal.returns
returns g c = makes g.X.Game.rules
