-- What a client has come to by the lines that it read and the actions that it made: whether it is gone, and, once it has read a sync, of
-- which match as which seat's viewer, the settled snapshot, the actions that wait for their verdicts, and the next ticket.
use Rattle.std.specs.Prelude.{ℕ, List, Bool, false, length, Option, Some, None, option_map}
use Rattle.game_sheet.specs.MatchName.{Name}
use Rattle.game_trait.specs.Rules.{Rules}
use Rattle.player_sight.specs.declared.shown.Snapshot.{Snapshot}
use Rattle.client_predict.specs.Shown.{shown}
use Rattle.client_predict.specs.declared.waiting.Waiting.{Waiting}

-- a client's part in a match since its last sync
pub record Playing (G : Type 0) : Type 0 where
  pub name : Name
  pub seat : Option ℕ
  pub settled : Snapshot G
  pub waiting : List Waiting
  pub ticket : ℕ

pub record Client (G : Type 0) : Type 0 where
  pub gone : Bool
  pub playing : Option (Playing G)

-- a client that has read nothing
abbrev pub fresh : {G : Type 0} → Client G
fresh = record { gone = false; playing = None }

-- the client of a game, with the key of a seat or none
pub record Held (X G : Type 0) : Type 0 where
  pub game : X
  pub key : Option (List ℕ)
  pub client : Client G

abbrev pub shown_of : {G : Type 0} → Rules G → Playing G → Snapshot G
shown_of rules p = shown rules p.seat p.settled p.waiting

abbrev pub settled_in : {G : Type 0} → Client G → Option (Snapshot G)
settled_in c = option_map (λ p. p.settled) c.playing

abbrev pub shown_in : {G : Type 0} → Rules G → Client G → Option (Snapshot G)
shown_in rules c = option_map (shown_of rules) c.playing

abbrev pub count_of : {G : Type 0} → Option (Playing G) → ℕ
count_of None = 0
count_of (Some p) = length p.waiting
