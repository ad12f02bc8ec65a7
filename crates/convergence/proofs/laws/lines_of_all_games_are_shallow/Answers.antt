use Rattle.any_game.proofs.Depths.{all_are_shallow}
use Rattle.convergence.proofs.laws.lines_of_all_games_are_shallow.Goals as goal

pub returns-clause-states : goal.returns-clause-states
returns-clause-states c = all_are_shallow

pub returns-clause-lines : goal.returns-clause-lines
returns-clause-lines c = λ room h low fits pass j s is. c.lines_are_shallow_where_states_are.ensures all_are_shallow room h low fits pass j s is
