use Rattle.offered_moves.proofs.Matches.{all_offers}
use Rattle.offered_moves.proofs.laws.offered_moves_are_allowed.Goals as goal

pub returns : goal.returns
returns c = all_offers
