-- A world: a server's hall, and for each client the client itself, once one was attached, and its two links, first in, first out. The
-- session of a client has the client's number as its pass.
use Rattle.std.specs.Prelude.{ℕ, ◌==◌, List, [], if◌then◌else◌, Option, Some, None}
use Rattle.game_sheet.specs.MatchName.{Name}
use Rattle.client_predict.specs.Client.{Held}
use Rattle.wire_json.specs.declared.asked.Asked.{Asked}
use Rattle.wire_json.specs.declared.protocol.Protocol.{Protocol}
use Rattle.hall_history.specs.Hall.{Hall, new_hall}

pub record World (X G : Type 0) : Type 0 where
  pub hall : Hall X
  pub clients : ℕ → Option (Held X G)
  -- the lines that wait on the way to the session, and to the client
  pub up : ℕ → List (List ℕ)
  pub down : ℕ → List (List ℕ)

-- over so many rooms to which nothing has come yet, without clients
abbrev pub new_world : {X G : Type 0} → ℕ → World X G
new_world rooms = record { hall = new_hall rooms; clients = λ c. None; up = λ c. []; down = λ c. [] }

-- what a line of a world in form asks for
pub data Step (X : Type 0) : Type 0 where
  Nothing : Step X
  Seeds : List ℕ → Step X
  -- a game's name, and how many seats
  Opens : List ℕ → ℕ → Step X
  -- a client of a game for a match, from a seat or as a spectator
  Attaches : ℕ → X → Name → Option ℕ → Protocol → Step X
  Acts : ℕ → Asked → Step X
  Arrives : ℕ → Step X
  Takes : ℕ → Step X
  Reads : ℕ → Step X
  Drops : ℕ → Step X
  Leaves : Name → ℕ → Step X
  Shows : ℕ → Step X

-- of all clients, one changes
abbrev pub set_at : {A : Type 0} → ℕ → A → (ℕ → A) → ℕ → A
set_at c value all other = if c == other then value else all other

module _ {X G : Type 0} (w : World X G) where
  abbrev pub with_hall : Hall X → World X G
  with_hall hall = record { hall = hall; clients = w.clients; up = w.up; down = w.down }

  abbrev pub with_client : ℕ → Held X G → World X G
  with_client c held = record { hall = w.hall; clients = set_at c (Some held) w.clients; up = w.up; down = w.down }

  -- a client's lines are these
  abbrev pub with_up : ℕ → List (List ℕ) → World X G
  with_up c lines = record { hall = w.hall; clients = w.clients; up = set_at c lines w.up; down = w.down }

  abbrev pub with_down : ℕ → List (List ℕ) → World X G
  with_down c lines = record { hall = w.hall; clients = w.clients; up = w.up; down = set_at c lines w.down }
