use Rattle.room_history.proofs.laws.matches_are_removed_with_their_last_player.Goals as goal
use Rattle.room_history.proofs.Seating.{removed_for}

pub returns : goal.returns
returns g c = removed_for g.X.Game.rules
