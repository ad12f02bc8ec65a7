-- What a client comes to that reads lines and makes acts in between, and in what it is like another client: apart from the acts that wait and
-- the next ticket, in everything.
use Rattle.std.specs.Prelude.{◌≡◌, ◌⊎◌, ℕ, List, [], ◌∷◌, true, false, position, Option, Some, None, option_map, Result, Ok, Err, IfSome}
use Rattle.client_predict.specs.Acting.{with_act}
use Rattle.client_predict.specs.Client.{Client, Playing}
use Rattle.client_predict.specs.Reading.{has_ticket, reads}
use Rattle.game_sheet.specs.MatchName.{Name}
use Rattle.game_trait.specs.Rules.{Rules}
use Rattle.player_sight.specs.declared.shown.Snapshot.{Snapshot}
use Rattle.wire_json.specs.Refusals.{Refusal}
use Rattle.wire_json.specs.ServerReading.{server_read}
use Rattle.wire_json.specs.declared.asked.Asked.{Asked}
use Rattle.wire_json.specs.declared.server.ServerMsg.{ServerMsg}
use Rattle.wire_json.specs.declared.server.ServerMsg.TheVariants as message

pub data Doing : Type 0 where
  Reads : List ℕ → Doing
  Acts : Asked → Doing

-- which match, as which seat's viewer, and what is settled
pub record Face (G : Type 0) : Type 0 where
  pub name : Name
  pub seat : Option ℕ
  pub settled : Snapshot G

abbrev pub face : {G : Type 0} → Playing G → Face G
face p = record { name = p.name; seat = p.seat; settled = p.settled }

pub record IsLike {G : Type 0} (c d : Client G) : Type 0 where
  pub gone : c.gone ≡ d.gone
  pub sees : option_map face c.playing ≡ option_map face d.playing

-- the ticket of the act that a message answers
abbrev pub ticket_of : ServerMsg → Option ℕ
ticket_of (message.Ok number ticket) = Some ticket
ticket_of (message.No number reason ticket) = Some ticket
ticket_of (message.Again ticket) = ticket
ticket_of other = None

abbrev pub ticket_in : Result ServerMsg Refusal → Option ℕ
ticket_in (Ok m) = ticket_of m
ticket_in (Err fault) = None

-- the client goes on, and an act with the ticket waits
pub record Knows {G : Type 0} (c : Client G) (ticket : ℕ) : Type 0 where
  pub here : c.gone ≡ false
  pub p : Playing G
  pub playing : c.playing ≡ Some p
  pub place : ℕ
  pub found : position (has_ticket ticket) p.waiting ≡ Some place

-- a client that is gone takes in no answer
abbrev pub KnowsWhere : {G : Type 0} → Client G → Option ℕ → Type 0
KnowsWhere c ticket = IfSome ticket (λ ticket. (c.gone ≡ true) ⊎ Knows c ticket)

-- the lines that are read, in order
abbrev pub lines_in : List Doing → List (List ℕ)
lines_in [] = []
lines_in (Reads line ∷ doings) = line ∷ lines_in doings
lines_in (Acts asked ∷ doings) = lines_in doings

module _ {G : Type 0} (rules : Rules G) where
  -- before its first sync a client makes no act
  abbrev pub acts_in : Client G → Option (Playing G) → Asked → Client G
  acts_in c None asked = c
  acts_in c (Some p) asked = record { gone = c.gone; playing = Some (with_act rules p asked) }

  abbrev pub does : Client G → Doing → Client G
  does c (Reads line) = (reads rules c line).client
  does c (Acts asked) = acts_in c c.playing asked

  abbrev pub does_all : Client G → List Doing → Client G
  does_all c [] = c
  does_all c (d ∷ doings) = does_all (does c d) doings

  -- each line that answers an act answers one that waits
  abbrev pub Answers : Client G → Doing → Type 0
  Answers c (Reads line) = KnowsWhere c (ticket_in (server_read line))
  Answers c (Acts asked) = Unit {0}

  abbrev pub AnswersAll : Client G → List Doing → Type 0
  AnswersAll c [] = Unit {0}
  AnswersAll c (d ∷ doings) = Answers c d × AnswersAll (does c d) doings
