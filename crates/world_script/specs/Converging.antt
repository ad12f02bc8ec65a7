-- What clients hold in a world of these lines, up to the first in no form; and a play of which one thing more is told.
use Rattle.std.specs.Prelude.{◌≡◌, ℕ, List}
use Rattle.any_game.specs.AnyRules.{named}
use Rattle.any_game.specs.GameKind.{GameKind}
use Rattle.client_world.specs.Reading.{world_step_of}
use Rattle.hall_history.specs.Mark.{Mark}
use Rattle.hall_history.specs.Tapes.{hall_tape}
use Rattle.world_convergence.specs.Converging.{Converges}
use Rattle.world_convergence.specs.Meeting.{Run}
use Rattle.world_script.specs.Sessions.{room_count}
use Rattle.line_runner.specs.Play.{Play, steps_of}

pub record ConvergesIn (marks : List Mark) (lines : List (List ℕ)) : Type 0 where
  pub run : Run GameKind
  pub in_rooms : run.rooms ≡ room_count
  pub by_marks : run.marks ≡ marks
  pub of_lines : run.steps ≡ steps_of world_step_of lines
  pub converges : Converges named hall_tape run

-- the same play, of whose marks and lines this is told too
abbrev pub telling : {Mark Step State : Type 0} → Play Mark Step State → (List Mark → List (List ℕ) → Type 0) → Play Mark Step State
telling p holds = record { form = p.form; runs = p.runs; Tells = λ marks lines. p.Tells marks lines × holds marks lines }
