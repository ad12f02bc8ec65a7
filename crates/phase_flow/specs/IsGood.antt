-- What holds of all that a match comes to: its table is sound, its state is one of the game's own, the match has its seats, its turns are at
-- most so many, and the outcome fits where there is one.
use Rattle.std.specs.Prelude.{◌≡◌, ◌≤◌, ℕ, IsTrue, IfSome}
use Rattle.game_trait.specs.InSheet.{OutcomeFits}
use Rattle.game_trait.specs.Rules.{Rules}
use Rattle.phase_flow.specs.IsSound.{IsSound}
use Rattle.phase_flow.specs.Reached.{Reached}

pub record IsGood {G : Type 0} (rules : Rules G) (seat_count most_moves most_turns : ℕ) (r : Reached G) : Type 0 where
  pub own : IsTrue (rules.own r.g)
  pub sound : IsSound rules.sheet most_moves r.ctx r.active
  pub turns : r.ctx.turn ≤ most_turns
  pub seats : r.ctx.seats ≡ seat_count
  pub over : IfSome r.ctx.over OutcomeFits
