use Rattle.any_game.specs.AnyRules.{named}
use Rattle.game_hall.specs.Run.{reply_next}
use Rattle.game_hall.proofs.Running.{line_ends}
use Rattle.game_hall.proofs.laws.requests_end.Goals as goal

pub returns : goal.returns
returns c = line_ends named reply_next
