-- A client of a world stands as one that has read a first part of what its session was sent, and its down link has more of it: all of it, as
-- long as the session is attached. Verdicts and direct answers are passed over.
use Rattle.std.specs.Prelude.{◌≡◌, ◌++◌, ℕ, List, Some}
use Rattle.client_predict.specs.Client.{Held}
use Rattle.game_trait.specs.Rules.{Rules}
use Rattle.room_history.specs.Course.{IsFirstPart}
use Rattle.room_history.specs.Session.{Session}
use Rattle.convergence.specs.Doing.{IsLike}
use Rattle.client_predict.specs.Following.{followed, told_lines}
use Rattle.world_history.specs.World.{World}

pub record Trails {X G : Type 0} (rules : X → Rules G) (w : World X G) (c room : ℕ) (held : Held X G) (s : Session) : Type 0 where
  pub read : List (List ℕ)
  pub like : IsLike held.client (followed (rules held.game) read)
  pub part : IsFirstPart (told_lines (read ++ w.down c)) (told_lines s.sent)
  pub whole : w.hall.at c ≡ Some room → told_lines (read ++ w.down c) ≡ told_lines s.sent
