use Rattle.any_game.specs.AnyRules.{named}
use Rattle.game_hall.specs.Run.{reply_next}
use Rattle.game_hall.proofs.Running.{line_answer_alone}
use Rattle.game_hall.proofs.laws.answers_change_nothing_else.Goals as goal

pub returns : goal.returns
returns c core read words seed n replies a none some = line_answer_alone named reply_next n core read words seed replies a none some
