use Rattle.any_game.specs.AnyRules.{named}
use Rattle.game_hall.proofs.Running.{act_goes}
use Rattle.game_hall.proofs.laws.acts_go_to_the_attached_room.Goals as goal

pub returns : goal.returns
returns c = act_goes named
