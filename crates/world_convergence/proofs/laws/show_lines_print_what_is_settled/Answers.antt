use Rattle.world_convergence.specs.Meeting.{world_after}
use Rattle.world_convergence.proofs.Showing.{prints}
use Rattle.world_convergence.proofs.laws.show_lines_print_what_is_settled.Goals as goal

pub returns : goal.returns
returns g c = λ flat named tape run client held s m meets game p playing.
    prints g.X.Game.rules client ((world_after named g.X.Game.rules tape run).clients client) held meets.client s m game p playing
    (c.clients_of_worlds_see_their_matches.ensures.settled flat named tape run client held s m meets game p playing)
