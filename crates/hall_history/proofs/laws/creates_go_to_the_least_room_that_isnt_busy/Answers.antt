use Rattle.hall_history.proofs.laws.creates_go_to_the_least_room_that_isnt_busy.Goals as goal
use Rattle.hall_history.proofs.Filling.{least_answers, least_changes}

pub returns-clause-answer : goal.returns-clause-answer
returns-clause-answer g c = λ named tape h pass name x seats found. least_answers named g.X.Game.rules tape h pass name x seats found

pub returns-clause-rooms : goal.returns-clause-rooms
returns-clause-rooms g c = λ named tape h pass name x seats found. least_changes named g.X.Game.rules tape h pass name x seats found
