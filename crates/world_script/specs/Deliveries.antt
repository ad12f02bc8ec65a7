-- What Takes put on the down links of clients along a world.
use Rattle.std.specs.Prelude.{◌≡◌, ℕ, List, [], Some}
use Rattle.any_game.specs.AnyRules.{any_rules, named}
use Rattle.any_game.specs.GameKind.{GameKind}
use Rattle.any_game.specs.declared.any_g.AnyG.{AnyG}
use Rattle.client_world.specs.Reading.{world_step_of}
use Rattle.room_history.specs.Alike.{AreAlike}
use Rattle.room_history.specs.Room.{session}
use Rattle.room_history.specs.Sent.{IsToldOf}
use Rattle.room_history.specs.Session.{Session}
use Rattle.hall_history.specs.Mark.{Mark}
use Rattle.hall_history.specs.Rooms.{History, history_of}
use Rattle.hall_history.specs.Tapes.{hall_tape}
use Rattle.world_history.specs.World.{World, new_world}
use Rattle.world_history.specs.WorldScript.{runs_world}
use Rattle.line_runner.specs.Play.{steps_of}
use Rattle.world_script.specs.Sessions.{room_count}
use Rattle.world_script.specs.Delivered.{all_put, texts_from, SaysAgain}
use Rattle.std.specs.List.{AllByRecursion}

abbrev pub first_world : World GameKind AnyG
first_world = new_world room_count

-- a room's history after these lines
unfoldable pub world_room_after : List Mark → List (List ℕ) → ℕ → History GameKind
world_room_after marks lines room = history_of (runs_world named any_rules hall_tape marks (steps_of world_step_of lines) first_world).0.hall.rooms room

-- the lines that Takes put on a down link for the session that a pass began with its attaching number j in a room
unfoldable pub delivered_for : List Mark → List (List ℕ) → ℕ → ℕ → ℕ → List (List ℕ)
delivered_for marks lines room pass j = all_put named any_rules hall_tape pass room j marks (steps_of world_step_of lines) first_world

-- For each session the lines that it is sent go on its client's down link. They are a first part of its stream, and those that any session
-- alike is sent, whatever else its room's history holds. Where of no client it is printed that there was no memory, it is printed what is
-- printed where each line is served.
pub record DeliversLines (marks : List Mark) (lines : List (List ℕ)) : Type 0 where
  pub sent : (room pass j : ℕ) (s : Session) → session any_rules room (world_room_after marks lines room) pass j ≡ Some s
      → delivered_for marks lines room pass j ≡ s.sent
  pub told : (room pass j : ℕ) (s : Session) → session any_rules room (world_room_after marks lines room) pass j ≡ Some s → IsToldOf s
  pub alike : (room pass j : ℕ) (s : Session) → session any_rules room (world_room_after marks lines room) pass j ≡ Some s
      → (other_room : ℕ) (h : History GameKind) (other i : ℕ) (t : Session) → session any_rules other_room h other i ≡ Some t → AreAlike s t
      → delivered_for marks lines room pass j ≡ t.sent
  pub served : AllByRecursion (λ text. SaysAgain text → ⊥) (texts_from named any_rules hall_tape marks (steps_of world_step_of lines) first_world)
      → (runs_world named any_rules hall_tape marks (steps_of world_step_of lines) first_world).1
      ≡ (runs_world named any_rules hall_tape [] (steps_of world_step_of lines) first_world).1
