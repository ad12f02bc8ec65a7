-- What an open makes of the books of the rooms.
use Rattle.std.specs.Prelude.{◌≡◌, ◌∷◌, ℕ, zero, suc, List, length, Option, Some, None}
use Rattle.any_game.specs.AnyRules.{any_rules, named}
use Rattle.any_game.specs.GameKind.{GameKind}
use Rattle.any_game.specs.declared.any_g.AnyG.{AnyG}
use Rattle.game_hall.specs.Core.{Core, fresh, moved}
use Rattle.game_hall.specs.Requests.{tries}
use Rattle.game_hall.specs.declared.answer.Answer.{Answer}
use Rattle.game_hall.specs.declared.answer.Answer.TheVariants.{Created}
use Rattle.game_sheet.specs.MatchName.{Name}
use Rattle.hall_history.specs.Hall.{runs}
use Rattle.hall_history.specs.Mark.{Lucky}
use Rattle.hall_history.specs.Opening.{joins, own_entry, own_pass, seated_by}
use Rattle.hall_history.specs.Rooms.{History, Rooms}
use Rattle.match_master.specs.Held.{Held, StandsFor}
use Rattle.room_history.specs.Room.{reply}
use Rattle.room_history.specs.declared.call.RoomCall.TheVariants.{Create}
use Rattle.room_history.specs.declared.reply.RoomReply.{RoomReply}
use Rattle.room_history.specs.declared.reply.RoomReply.TheVariants as reply
use Rattle.session_hall.specs.Held.{AreBooks}
use Rattle.session_hall.specs.declared.opening.Tried.{Tried}
use Rattle.session_hall.specs.declared.opening.Tried.TheVariants.{Busy, Made, Refused, Starved}

-- what a reply says of a create
abbrev pub tried_by : RoomReply → Tried
tried_by reply.Busy = Busy
tried_by (reply.Created serial) = Made serial
tried_by reply.NoMemory = Starved
tried_by other = Refused

-- a room was asked for a match of this game, if there is such a game
abbrev pub MakesIn : ℕ → Option GameKind → ℕ → List ℕ → History GameKind → Tried → Held GameKind AnyG → Type 0
MakesIn room None seats seed h tried book = (tried ≡ Refused) × StandsFor any_rules book h
MakesIn room (Some game) seats seed h tried book =
    (tried ≡ tried_by (reply any_rules room h (own_entry (Create game seats seed)))) × StandsFor any_rules book (own_entry (Create game seats seed) ∷ h)

-- unless there was no memory
abbrev pub CreatesIn : ℕ → Option GameKind → ℕ → List ℕ → History GameKind → Tried → Held GameKind AnyG → Type 0
CreatesIn room found seats seed h Starved book = (after : History GameKind) × StandsFor any_rules book after
CreatesIn room found seats seed h tried book = MakesIn room found seats seed h tried book

-- a room's history after players have been seated at so many seats of a match
abbrev pub seated_in : ℕ → ℕ → History GameKind → History GameKind
seated_in serial zero h = h
seated_in serial (suc seats) h = joins serial seats ∷ seated_in serial seats h

-- the match that an open made, if it made one
abbrev pub made_by : Option Answer → Option Name
made_by (Some (Created name)) = Some name
made_by said = None

-- how the rooms are asked
abbrev pub opening_in : Rooms GameKind → List ℕ → ℕ → List ℕ → Core GameKind × Lucky GameKind
opening_in rooms game seats seed =
    runs named any_rules None own_pass rooms (moved (fresh own_pass (length rooms)) (tries named (length rooms) game seats seed 0))

pub record OpensIn (rooms : Rooms GameKind) (game : List ℕ) (seats : ℕ) (seed : List ℕ) (books : List (Held GameKind AnyG)) (made : Option Name) : Type 0 where
  pub stand : AreBooks books (seated_by (opening_in rooms game seats seed).0.said seats (opening_in rooms game seats seed).1.rooms)
  pub answer : made ≡ made_by (opening_in rooms game seats seed).0.said
