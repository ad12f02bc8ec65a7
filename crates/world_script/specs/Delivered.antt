-- The lines by which Takes have the down links of clients grow along a world, and where a world prints that there was no memory.
use Rattle.std.specs.Prelude.{◌≡◌, ℕ, List, [], ◌∷◌, ◌++◌, codes, drop, if◌then◌else◌, length, Option}
use Rattle.game_trait.specs.Rules.{Rules}
use Rattle.hall_history.specs.Mark.{Mark}
use Rattle.hall_history.specs.Script.{first_mark}
use Rattle.hall_history.specs.Told.{is_session}
use Rattle.world_history.specs.Words.{of_client}
use Rattle.world_history.specs.World.{World, Step, Takes}
use Rattle.world_history.specs.WorldScript.{does}

-- by which lines a link has grown
abbrev pub grown : List (List ℕ) → List (List ℕ) → List (List ℕ)
grown before after = drop (length before) after

module _ {X G : Type 0} (named : List ℕ → Option X) (rules : X → Rules G) (tape : ℕ → List ℕ) where
  module _ (pass room j : ℕ) where
    -- those that a step puts on the down link for the session that a pass began with its attaching number j in a room
    abbrev pub lines_put : Mark → Step X → World X G → List (List ℕ)
    lines_put mark (Takes c) w = if is_session rules pass room j w.hall c then grown (w.down c) ((does named rules tape mark (Takes c) w).0.down c) else []
    lines_put mark step w = []

    abbrev pub all_put : List Mark → List (Step X) → World X G → List (List ℕ)
    all_put marks [] w = []
    all_put marks (step ∷ steps) w = lines_put (first_mark marks) step w ++ all_put (drop 1 marks) steps (does named rules tape (first_mark marks) step w).0

  -- what each step prints
  abbrev pub texts_from : List Mark → List (Step X) → World X G → List (List ℕ)
  texts_from marks [] w = []
  texts_from marks (step ∷ steps) w = (does named rules tape (first_mark marks) step w).1 ∷ texts_from (drop 1 marks) steps (does named rules tape (first_mark marks) step w).0

-- of a client it is printed that there was no memory
abbrev pub SaysAgain : List ℕ → Type 0
SaysAgain text = (c : ℕ) × (text ≡ of_client c (codes "again"))
