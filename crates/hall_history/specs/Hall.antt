-- What the lines of sessions make of a server: of its rooms, of who is attached where, of the words that are left, and of a seed that
-- stands ready; and how each line is answered.
use Rattle.std.specs.Prelude.{[], replicate, ℕ, zero, suc, ◌+◌, ◌==◌, List, length, if◌then◌else◌, Option, Some, None, Result, Ok}
use Rattle.game_trait.specs.Rules.{Rules}
use Rattle.game_hall.specs.Core.{Core, fresh, starved, heard, is_again}
use Rattle.game_hall.specs.Run.{run}
use Rattle.game_hall.specs.Words.{words_drawn_by, seed_left_by}
use Rattle.game_hall.specs.declared.answer.Answer.{Answer}
use Rattle.wire_json.specs.ClientReading.{client_read}
use Rattle.wire_json.specs.Refusals.{Refusal}
use Rattle.wire_json.specs.declared.client.ClientMsg.{ClientMsg}
use Rattle.wire_json.specs.declared.client.ClientMsg.TheVariants.{Act}
use Rattle.hall_history.specs.Mark.{Mark, Served, Unread, Starved, Luck, Lucky, ask_rooms}
use Rattle.hall_history.specs.Rooms.{Rooms}

pub record Hall (X : Type 0) : Type 0 where
  pub rooms : Rooms X
  -- the room that each pass is attached to
  pub at : ℕ → Option ℕ
  -- how many words were drawn from the server's tape
  pub place : ℕ
  -- the seed that the next match takes
  pub seed : Option (List ℕ)

-- so many rooms to which nothing has come yet
abbrev pub new_hall : {X : Type 0} → ℕ → Hall X
new_hall rooms = record { rooms = replicate rooms []; at = λ pass. None; place = 0; seed = None }

abbrev pub attached_to : ℕ → Option ℕ → (ℕ → Option ℕ) → ℕ → Option ℕ
attached_to pass room at other = if pass == other then room else at other

-- the ticket with which it comes back: that of an act that was read
abbrev pub ticket_in : Result ClientMsg Refusal → Option ℕ
ticket_in (Ok (Act submission)) = Some submission.ticket
ticket_in read = None

module _ {X G : Type 0} (named : List ℕ → Option X) (rules : X → Rules G) where
  -- a pass's request makes at most one call more than there are rooms
  abbrev pub runs : Luck → ℕ → Rooms X → Core X → Core X × Lucky X
  runs luck pass rooms c = run named (ask_rooms rules pass) (length rooms + 1) c (record { rooms = rooms; luck = luck })

-- between two lines a session is its pass and its room
abbrev pub core_of : {X : Type 0} → Hall X → ℕ → Core X
core_of h pass = record (fresh pass (length h.rooms)) { at = h.at pass }

module _ {X : Type 0} (named : List ℕ → Option X) (tape : ℕ → List ℕ) where
  abbrev pub begun : Hall X → ℕ → Result ClientMsg Refusal → Core X
  begun h pass read = heard named (core_of h pass) read (tape h.place) h.seed

-- words and a seed are given back after `again`
abbrev pub hall_after : {X : Type 0} → Hall X → ℕ → Result ClientMsg Refusal → Core X × Lucky X → Hall X
hall_after h pass read done = record {
  rooms = done.1.rooms;
  at = attached_to pass done.0.at h.at;
  place = if is_again done.0.said then h.place else h.place + words_drawn_by read h.seed;
  seed = if is_again done.0.said then h.seed else seed_left_by read h.seed;
}

module _ {X G : Type 0} (named : List ℕ → Option X) (rules : X → Rules G) (tape : ℕ → List ℕ) where
  -- what a session's line comes to, as its mark says
  abbrev pub request : Mark → Hall X → ℕ → Result ClientMsg Refusal → Core X × Lucky X
  request Served h pass read = runs named rules None pass h.rooms (begun named tape h pass read)
  request Unread h pass read = (starved (core_of h pass) None, record { rooms = h.rooms; luck = None })
  request (Starved zero there) h pass read = (starved (core_of h pass) (ticket_in read), record { rooms = h.rooms; luck = None })
  request (Starved (suc n) there) h pass read = runs named rules (Some (suc n, there)) pass h.rooms (begun named tape h pass read)

  -- a session's line: the hall after it, and its direct answer
  abbrev pub after_line : Mark → Hall X → ℕ → List ℕ → Hall X × Option Answer
  after_line mark h pass line = let read = client_read line in let done = request mark h pass read in (hall_after h pass read done, done.0.said)
