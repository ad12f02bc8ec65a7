-- What a client that has read its sync has settled: what its session's viewer sees of the session's match once the first actions that the
-- match accepted were accepted, as many as the settled number.
use Rattle.std.specs.Prelude.{◌≡◌, ◌++◌, List, length}
use Rattle.client_predict.specs.Client.{Playing}
use Rattle.game_sheet.specs.Viewer.{seat_of}
use Rattle.game_trait.specs.Rules.{Rules}
use Rattle.reducer.specs.Accepted.{Accepted}
use Rattle.room_history.specs.Match.{Match}
use Rattle.room_history.specs.Session.{Session}
use Rattle.room_history.specs.Shown.{view_at}

pub record SettlesAt {X G : Type 0} (rules : X → Rules G) (m : Match X G) (s : Session) (accepted : List Accepted) (p : Playing G) : Type 0 where
  pub name : p.name ≡ s.name
  pub seat : p.seat ≡ seat_of s.viewer
  pub settled : p.settled ≡ view_at (rules m.game) m.first (seat_of s.viewer) accepted

pub record Settles {X G : Type 0} (rules : X → Rules G) (m : Match X G) (s : Session) (p : Playing G) : Type 0 where
  pub later : List Accepted
  pub earlier : List Accepted
  pub in_order : m.accepted ≡ later ++ earlier
  pub number : p.settled.number ≡ length earlier
  pub at : SettlesAt rules m s earlier p
