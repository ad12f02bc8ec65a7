-- An open: a match in the first free room, with a player at each of its seats, all by pass 32. The player of a seat has a name and a key by
-- its number. An open draws its words, or takes the seed that stands ready, also where all rooms are full.
use Rattle.std.specs.Prelude.{ℕ, zero, suc, ◌+◌, List, [], ◌∷◌, ◌++◌, length, false, decimal, replicate, codes, Option, Some, None}
use Rattle.game_trait.specs.Rules.{Rules}
use Rattle.game_sheet.specs.MatchName.{Name}
use Rattle.game_hall.specs.Core.{Core, fresh, moved}
use Rattle.game_hall.specs.Requests.{tries}
use Rattle.game_hall.specs.Words.{seed_of, seed_words}
use Rattle.game_hall.specs.declared.answer.Answer.{Answer}
use Rattle.game_hall.specs.declared.answer.Answer.TheVariants.{Created}
use Rattle.room_history.specs.declared.call.RoomCall.{RoomCall}
use Rattle.room_history.specs.declared.call.RoomCall.TheVariants.{Join}
use Rattle.room_object.specs.Entry.{Entry, entry}
use Rattle.wire_json.specs.MatchText.{match_text}
use Rattle.hall_history.specs.Hall.{Hall, runs}
use Rattle.hall_history.specs.Mark.{Lucky}
use Rattle.hall_history.specs.Rooms.{Rooms, with_entry}

-- the pass by which scripts and worlds call rooms themselves
abbrev pub own_pass : ℕ
own_pass = 32

abbrev pub own_entry : {X : Type 0} → RoomCall X → Entry (RoomCall X)
own_entry call = entry own_pass call false

abbrev pub seat_key : ℕ → List ℕ
seat_key seat = replicate 15 0 ++ seat ∷ []

abbrev pub seat_name : ℕ → List ℕ
seat_name seat = codes "p" ++ decimal seat

abbrev pub joins : {X : Type 0} → ℕ → ℕ → Entry (RoomCall X)
joins serial seat = own_entry (Join serial seat (seat_name seat) (seat_key seat))

-- after players have been seated at so many seats, from seat 0 on
abbrev pub seated : {X : Type 0} → Name → ℕ → Rooms X → Rooms X
seated name zero rooms = rooms
seated name (suc seats) rooms = with_entry (seated name seats rooms) name.room (joins name.serial seats)

abbrev pub seated_by : {X : Type 0} → Option Answer → ℕ → Rooms X → Rooms X
seated_by (Some (Created name)) seats rooms = seated name seats rooms
seated_by said seats rooms = rooms

-- what an open prints: the match that was made, or that all rooms are full
abbrev pub opened_text : Option Answer → List ℕ
opened_text (Some (Created name)) = codes "open " ++ match_text name ++ 10 ∷ []
opened_text said = codes "open full" ++ 10 ∷ []

module _ {X G : Type 0} (named : List ℕ → Option X) (rules : X → Rules G) (tape : ℕ → List ℕ) where
  -- the rooms are asked as a session's create asks them
  abbrev pub opening : Hall X → List ℕ → ℕ → Core X × Lucky X
  opening h game seats =
      runs named rules None own_pass h.rooms (moved (fresh own_pass (length h.rooms)) (tries named (length h.rooms) game seats (seed_of h.seed (tape h.place)) 0))

  -- the hall after an open, and what it is answered
  abbrev pub after_open : Hall X → List ℕ → ℕ → Hall X × Option Answer
  after_open h game seats = let done = opening h game seats in
      (record h { rooms = seated_by done.0.said seats done.1.rooms; place = h.place + seed_words h.seed; seed = None }, done.0.said)
