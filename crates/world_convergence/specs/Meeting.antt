-- A run of a world, and in which room a client's session is: the one that the client was attached in last, since the line that attached it
-- to its match. There is none until that session has begun.
use Rattle.std.specs.Prelude.{◌≡◌, ◌≤◌, ℕ, ◌==◌, List, [], ◌∷◌, drop, if◌then◌else◌, Option, Some, None}
use Rattle.client_predict.specs.Client.{Held}
use Rattle.game_trait.specs.Rules.{Rules}
use Rattle.hall_history.specs.Mark.{Mark}
use Rattle.hall_history.specs.Rooms.{history_of}
use Rattle.hall_history.specs.Script.{first_mark}
use Rattle.world_history.specs.World.{World, Step, Attaches, new_world}
use Rattle.world_history.specs.WorldScript.{does, runs_world}
use Rattle.room_history.specs.Match.{Match}
use Rattle.room_history.specs.Room.{latest_session, match_of}
use Rattle.room_history.specs.Session.{Session}
use Rattle.std.specs.Option.{option_or}
use Rattle.world_convergence.specs.Steps.{StepFits}
use Rattle.std.specs.List.{AllByRecursion}

-- the lines of a world over at most 64 rooms, with their marks
pub record Run (X : Type 0) : Type 0 where
  pub rooms : ℕ
  pub few : rooms ≤ 64
  pub marks : List Mark
  pub steps : List (Step X)
  pub fit : AllByRecursion StepFits steps

-- a client that is attached anew has no session yet
abbrev pub unless_new : {X : Type 0} → ℕ → Step X → Option ℕ → Option ℕ
unless_new c (Attaches client game name seat protocol) before = if client == c then None else before
unless_new c step before = before

module _ {X G : Type 0} (named : List ℕ → Option X) (rules : X → Rules G) (tape : ℕ → List ℕ) where
  abbrev pub room_after : ℕ → List Mark → List (Step X) → World X G → Option ℕ → Option ℕ
  room_after c marks [] w before = before
  room_after c marks (step ∷ steps) w before = room_after c (drop 1 marks) steps (does named rules tape (first_mark marks) step w).0
      (option_or ((does named rules tape (first_mark marks) step w).0.hall.at c) (unless_new c step before))

  abbrev pub world_after : Run X → World X G
  world_after run = (runs_world named rules tape run.marks run.steps (new_world run.rooms)).0

  abbrev pub room_of_client : Run X → ℕ → Option ℕ
  room_of_client run c = room_after c run.marks run.steps (new_world run.rooms) None

-- a client of a run that has a session, the session, and the session's match
pub record Meets {X G : Type 0} (named : List ℕ → Option X) (rules : X → Rules G) (tape : ℕ → List ℕ) (run : Run X) (c : ℕ) (held : Held X G) (s : Session) (m : Match X G) : Type 0 where
  pub room : ℕ
  pub client : (world_after named rules tape run).clients c ≡ Some held
  pub there : room_of_client named rules tape run c ≡ Some room
  pub session : latest_session rules room (history_of (world_after named rules tape run).hall.rooms room) c ≡ Some s
  pub of : match_of rules room (history_of (world_after named rules tape run).hall.rooms room) s.name.serial ≡ Some m
