-- What the lines of a script print, and what of it is told to sessions.
use Rattle.std.specs.Prelude.{◌≡◌, ℕ, List, [], Some, false}
use Rattle.std.specs.List.{flat_map, AllByRecursion}
use Rattle.any_game.specs.AnyRules.{any_rules, named}
use Rattle.any_game.specs.GameKind.{GameKind}
use Rattle.room_history.specs.Alike.{AreAlike}
use Rattle.room_history.specs.Room.{session}
use Rattle.room_history.specs.Sent.{IsToldOf}
use Rattle.room_history.specs.Session.{Session}
use Rattle.hall_history.specs.Hall.{new_hall}
use Rattle.hall_history.specs.Mark.{Mark}
use Rattle.hall_history.specs.Rooms.{History, history_of}
use Rattle.hall_history.specs.Script.{script_hall, transcript}
use Rattle.hall_history.specs.Tapes.{hall_tape}
use Rattle.script_steps.specs.Forms.{step_of}
use Rattle.script_steps.specs.Pieces.{Print, pieces_from, print_text, told_to, says_again}
use Rattle.line_runner.specs.Play.{steps_of}

-- how many rooms a script has, and a world
abbrev pub room_count : ℕ
room_count = 8

-- a room's history after these lines
unfoldable pub room_after : List Mark → List (List ℕ) → ℕ → History GameKind
room_after marks lines room = history_of (script_hall named any_rules hall_tape room_count marks (steps_of step_of lines)).rooms room

-- what these lines print, as text and piece by piece
abbrev pub text_of : List Mark → List (List ℕ) → List ℕ
text_of marks lines = transcript named any_rules hall_tape room_count marks (steps_of step_of lines)

unfoldable pub pieces_of : List Mark → List (List ℕ) → List Print
pieces_of marks lines = pieces_from named any_rules hall_tape marks (steps_of step_of lines) (new_hall room_count)

-- What is printed is pieces. Those that are told to a session are the lines that it is sent, one after another. They are a first part of its
-- stream, and those that any session alike is sent, whatever else its room's history holds. Where no line is answered that there was no memory
-- for it, it is printed what is printed where each is served.
pub record TellsSessions (marks : List Mark) (lines : List (List ℕ)) : Type 0 where
  pub text : text_of marks lines ≡ flat_map print_text (pieces_of marks lines)
  pub sent : (room pass j : ℕ) (s : Session) → session any_rules room (room_after marks lines room) pass j ≡ Some s
      → told_to pass room j (pieces_of marks lines) ≡ s.sent
  pub told : (room pass j : ℕ) (s : Session) → session any_rules room (room_after marks lines room) pass j ≡ Some s → IsToldOf s
  pub alike : (room pass j : ℕ) (s : Session) → session any_rules room (room_after marks lines room) pass j ≡ Some s
      → (other_room : ℕ) (h : History GameKind) (other i : ℕ) (t : Session) → session any_rules other_room h other i ≡ Some t → AreAlike s t
      → told_to pass room j (pieces_of marks lines) ≡ t.sent
  pub served : AllByRecursion (λ print. says_again print ≡ false) (pieces_of marks lines) → text_of marks lines ≡ text_of [] lines
