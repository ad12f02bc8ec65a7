-- What a SessionHall's calls come to.
use Rattle.std.specs.Prelude.{◌≡◌, ◌++◌, ◌∷◌, [], ℕ, List, length, nat_lt, if◌then◌else◌, codes, Bool, Option, Some, None}
use Rattle.any_game.specs.AnyRules.{any_rules, named}
use Rattle.any_game.specs.GameKind.{GameKind}
use Rattle.game_hall.specs.Core.{is_again, text_said}
use Rattle.game_sheet.specs.MatchName.{Name}
use Rattle.hall_history.specs.Freeing.{frees}
use Rattle.hall_history.specs.Hall.{Hall, after_line}
use Rattle.hall_history.specs.Mark.{Mark}
use Rattle.hall_history.specs.Opening.{after_open, own_entry, seat_key}
use Rattle.hall_history.specs.Rooms.{reply_in, with_entry}
use Rattle.room_history.specs.declared.call.RoomCall.{RoomCall}
use Rattle.room_history.specs.declared.call.RoomCall.TheVariants.{Leave}
use Rattle.room_history.specs.declared.reply.RoomReply.{RoomReply}
use Rattle.room_object.specs.Entry.{Entry}
use Rattle.wire_json.specs.MatchText.{match_text}
use Rattle.session_hall.specs.Held.{HeldHall, StandsForHall}
use Rattle.session_hall.specs.Opens.{made_by}
use Rattle.session_hall.specs.Requests.{Tallies, with_calls}
use Rattle.session_driver.specs.Calls.{Did}
use Rattle.session_driver.specs.declared.tally.Tally.{Tally}

-- a session's line was heard, with the memory that a mark says
pub record HearsLine (tape : ℕ → List ℕ) (h : Hall GameKind) (pass : ℕ) (line : List ℕ) (new : HeldHall) (said : List ℕ) (again : Bool) (tally : Tally) : Type 0 where
  pub mark : Mark
  pub stands : StandsForHall tape new (after_line named any_rules tape mark h pass line).0
  pub text : said ≡ text_said (after_line named any_rules tape mark h pass line).1
  pub want : again ≡ is_again (after_line named any_rules tape mark h pass line).1
  pub tallies : Tallies h.rooms tally (after_line named any_rules tape mark h pass line).0.rooms

-- and these are the calls that it made, the latest first
pub record HearsLineBy (tape : ℕ → List ℕ) (h : Hall GameKind) (pass : ℕ) (line : List ℕ) (new : HeldHall) (said : List ℕ) (again : Bool) (tally : Tally) (calls : List Did) : Type 0 where
  pub heard : HearsLine tape h pass line new said again tally
  pub rooms : (after_line named any_rules tape heard.mark h pass line).0.rooms ≡ with_calls pass calls h.rooms

-- a Take or a Detach of a session was replied to; none where the session isn't attached
pub record Frees (tape : ℕ → List ℕ) (h : Hall GameKind) (pass : ℕ) (call : RoomCall GameKind) (new : HeldHall) (told : Option RoomReply) : Type 0 where
  pub stands : StandsForHall tape new (frees any_rules h pass call).0
  pub reply : told ≡ (frees any_rules h pass call).1

-- what an open prints
abbrev pub made_text : Option Name → List ℕ
made_text (Some name) = codes "open " ++ match_text name ++ 10 ∷ []
made_text None = codes "open full" ++ 10 ∷ []

pub record Opens (tape : ℕ → List ℕ) (h : Hall GameKind) (game : List ℕ) (seats : ℕ) (new : HeldHall) (made : Option Name) : Type 0 where
  pub stands : StandsForHall tape new (after_open named any_rules tape h game seats).0
  pub answer : made ≡ made_by (after_open named any_rules tape h game seats).1

-- a player leaves a seat by the key that an open gave it; none where the match's room isn't there
abbrev pub leaving_by : Hall GameKind → ℕ → Entry (RoomCall GameKind) → Hall GameKind × Option RoomReply
leaving_by h room e = (record h { rooms = with_entry h.rooms room e }, Some (reply_in any_rules h.rooms room e))

abbrev pub leaving : Hall GameKind → Name → ℕ → Hall GameKind × Option RoomReply
leaving h name seat = if nat_lt name.room (length h.rooms) then leaving_by h name.room (own_entry (Leave name.serial seat (seat_key seat))) else (h, None)

pub record Leaves (tape : ℕ → List ℕ) (h : Hall GameKind) (name : Name) (seat : ℕ) (new : HeldHall) (told : Option RoomReply) : Type 0 where
  pub stands : StandsForHall tape new (leaving h name seat).0
  pub reply : told ≡ (leaving h name seat).1
