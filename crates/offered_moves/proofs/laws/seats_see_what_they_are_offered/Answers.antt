use Rattle.offered_moves.proofs.Views.{all_seen}
use Rattle.offered_moves.proofs.laws.seats_see_what_they_are_offered.Goals as goal

pub returns : goal.returns
returns c = all_seen
