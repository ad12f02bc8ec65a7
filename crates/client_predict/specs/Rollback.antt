-- What a refusal leaves of a guess: nothing. What is shown is then the settled snapshot with the other waiting actions, and with none
-- waiting it is the settled snapshot.
use Rattle.std.specs.Prelude.{◌≡◌, ℕ, position, Option, Some}
use Rattle.std.specs.List.{remove}
use Rattle.game_trait.specs.Rules.{Rules}
use Rattle.client_predict.specs.Client.{Client, Playing, shown_in}
use Rattle.client_predict.specs.Reading.{has_ticket}
use Rattle.client_predict.specs.Shown.{shown}

pub record IsRolledBack {G : Type 0} (rules : Rules G) (ticket : ℕ) (old new : Client G) : Type 0 where
  pub p : Playing G
  pub played : old.playing ≡ Some p
  pub place : ℕ
  pub found : position (has_ticket ticket) p.waiting ≡ Some place
  pub shows : shown_in rules new ≡ Some (shown rules p.seat p.settled (remove p.waiting place))
