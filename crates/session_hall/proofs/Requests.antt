-- What the calls of a request make of its core and of the books of the rooms.
use Rattle.std.proofs.Common.{◌≡◌, ◌+◌, ℕ, suc, List, ◌∷◌, length, Bool, true, Option, Some, None, Result}
use Rattle.any_game.specs.AnyRules.{any_rules, named}
use Rattle.any_game.specs.GameKind.{GameKind}
use Rattle.any_game.specs.declared.any_g.AnyG.{AnyG}
use Rattle.game_hall.specs.Core.{Core, is_again, plain, written}
use Rattle.game_hall.specs.Run.{run}
use Rattle.hall_history.specs.Hall.{Hall, core_of, request}
use Rattle.hall_history.specs.Mark.{Luck, Mark, Served, Starved, ask_rooms}
use Rattle.hall_history.specs.Rooms.{History, Rooms}
use Rattle.match_master.specs.Held.{Held, StandsFor, is_starved, may_starve}
use Rattle.room_history.specs.Room.{reply}
use Rattle.room_history.specs.declared.call.RoomCall.{RoomCall}
use Rattle.room_history.specs.declared.reply.RoomReply.{RoomReply}
use Rattle.room_object.specs.Entry.{entry}
use Rattle.game_hall.specs.Counts.{accepts, refuses}
use Rattle.session_driver.specs.Hearing.{HearsReply}
use Rattle.session_driver.specs.declared.tally.Tally.{Tally}
use Rattle.wire_json.specs.Refusals.{Refusal as Fault}
use Rattle.wire_json.specs.declared.client.ClientMsg.{ClientMsg}
use Rattle.session_hall.specs.Held.{AreBooks}
use Rattle.session_hall.specs.Requests.{Tallies}

-- where memory is wanted in a request: after so many calls that were served, at the next one, in its room or at its reply
abbrev pub Want : Type 0
Want = Option (ℕ × Bool)

abbrev pub luck_of : Want → Luck
luck_of None = None
luck_of (Some want) = Some (suc want.0, want.1)

abbrev pub mark_of : Want → Mark
mark_of None = Served
mark_of (Some want) = Starved (suc want.0) want.1

-- a call was made in a room and replied to so, and the core goes on from the reply
pub record Asks (pass room : ℕ) (call : RoomCall GameKind) (told : RoomReply) (c : Core GameKind) (h : History GameKind) (d : Core GameKind) (book : Held GameKind AnyG) (tally : Tally) : Type 0 where
  pub is : told ≡ reply any_rules room h (entry pass call (is_starved told))
  pub fed : is_starved told ≡ true → may_starve call ≡ true
  pub stands : StandsFor any_rules book (entry pass call (is_starved told) ∷ h)
  pub heard : HearsReply c told d
  pub accepted : tally.accepted ≡ accepts told
  pub refused : tally.refused ≡ refuses told

-- a request has run so many calls at most, from one core and rooms to others
pub record RunsTo (n pass : ℕ) (c : Core GameKind) (rooms : Rooms GameKind) (d : Core GameKind) (after : Rooms GameKind) : Type 0 where
  pub want : Want
  pub core : (run named (ask_rooms any_rules pass) n c (record { rooms = rooms; luck = luck_of want })).0 ≡ d
  pub left : (run named (ask_rooms any_rules pass) n c (record { rooms = rooms; luck = luck_of want })).1.rooms ≡ after

-- and the books stand for those rooms
pub record Runs (pass : ℕ) (c : Core GameKind) (rooms after : Rooms GameKind) (d : Core GameKind) (books : List (Held GameKind AnyG)) (tally : Tally) : Type 0 where
  pub stand : AreBooks books after
  pub goes : RunsTo (length rooms + 1) pass c rooms d after
  pub tallies : Tallies rooms tally after

-- a session's core, the books and the words are those of a hall
pub record IsReady (words : ℕ → List ℕ) (h : Hall GameKind) (pass : ℕ) (c : Core GameKind) (books : List (Held GameKind AnyG)) (left : List ℕ) (seed : Option (List ℕ)) : Type 0 where
  pub is_core : c ≡ core_of h pass
  pub are_books : AreBooks books h.rooms
  pub are_words : left ≡ words h.place
  pub is_seed : seed ≡ h.seed

-- a session's message was served as far as a mark says, and left these rooms
pub record HearsRequest (words : ℕ → List ℕ) (h : Hall GameKind) (pass : ℕ) (read : Result ClientMsg Fault) (d : Core GameKind) (books : List (Held GameKind AnyG)) (line : List ℕ) (again : Bool) (tally : Tally) (after : Rooms GameKind) : Type 0 where
  pub mark : Mark
  pub stand : AreBooks books (request named any_rules words mark h pass read).1.rooms
  pub core : d ≡ plain (request named any_rules words mark h pass read).0
  pub text : line ≡ written (request named any_rules words mark h pass read).0
  pub want : again ≡ is_again (request named any_rules words mark h pass read).0.said
  pub tallies : Tallies h.rooms tally (request named any_rules words mark h pass read).1.rooms
  pub rooms : (request named any_rules words mark h pass read).1.rooms ≡ after
