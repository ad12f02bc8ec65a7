-- A client sees a session's match as the session's viewer sees it at some number: once the first actions that the match accepted were
-- accepted, which are those at the end of the list, as many as the number. No act waits.
use Rattle.std.specs.Prelude.{◌≡◌, ◌++◌, List, Some}
use Rattle.client_predict.specs.Client.{Client}
use Rattle.client_predict.specs.Reading.{begun}
use Rattle.game_sheet.specs.Viewer.{seat_of}
use Rattle.game_trait.specs.Rules.{Rules}
use Rattle.reducer.specs.Accepted.{Accepted}
use Rattle.room_history.specs.Match.{Match}
use Rattle.room_history.specs.Session.{Session}
use Rattle.room_history.specs.Shown.{view_at}

pub record SeesAt {X G : Type 0} (rules : X → Rules G) (m : Match X G) (s : Session) (c : Client G) : Type 0 where
  pub later : List Accepted
  pub earlier : List Accepted
  pub in_order : m.accepted ≡ later ++ earlier
  pub plays : c.playing ≡ Some (begun s.name (seat_of s.viewer) (view_at (rules m.game) m.first (seat_of s.viewer) earlier))
