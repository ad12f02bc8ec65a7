-- What Takes put on a client's down link, step by step along a world.
use Rattle.std.specs.Prelude.{ℕ, List, [], ◌∷◌, ◌++◌, drop, Option}
use Rattle.game_trait.specs.Rules.{Rules}
use Rattle.hall_history.specs.Mark.{Mark}
use Rattle.hall_history.specs.Script.{first_mark}
use Rattle.hall_history.specs.Script as script
use Rattle.hall_history.specs.Told.{handed_by}
use Rattle.world_history.specs.World.{World, Step, Takes}
use Rattle.world_history.specs.WorldScript.{does}

module _ {X G : Type 0} (rules : X → Rules G) (pass room j : ℕ) where
  -- the bytes of the lines that a step puts on the down link for a session
  abbrev pub delivered_by : Step X → World X G → List ℕ
  delivered_by (Takes c) w = handed_by rules pass room j (script.Takes c) w.hall
  delivered_by step w = []

module _ {X G : Type 0} (named : List ℕ → Option X) (rules : X → Rules G) (tape : ℕ → List ℕ) (pass room j : ℕ) where
  abbrev pub delivered : List Mark → List (Step X) → World X G → List ℕ
  delivered marks [] w = []
  delivered marks (step ∷ steps) w =
      delivered_by rules pass room j step w ++ delivered (drop 1 marks) steps (does named rules tape (first_mark marks) step w).0
