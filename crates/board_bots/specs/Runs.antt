-- Answers as they are kept: each run is so many silences and what was answered then, and some silences may follow.
use Rattle.std.specs.Prelude.{ℕ, List, [], ◌∷◌, ◌++◌, replicate}
use Rattle.board_links.specs.declared.link.Came.{Came}
use Rattle.board_links.specs.declared.link.Came.TheVariants as came
use Rattle.board_bots.specs.declared.answers.Run.{Run}
use Rattle.board_bots.specs.declared.answers.Spoken.{Spoken}
use Rattle.board_bots.specs.declared.answers.Spoken.TheVariants as spoken

abbrev pub came_of : Spoken → Came
came_of (spoken.Line line) = came.Line line.items
came_of spoken.Ended = came.Ended

abbrev pub silences : ℕ → List Came
silences times = replicate times came.Quiet

abbrev pub answers_of : List Run → List Came
answers_of [] = []
answers_of (run ∷ runs) = silences run.quiet ++ came_of run.spoken ∷ answers_of runs

abbrev pub told_of : List Run → ℕ → List Came
told_of runs quiet = answers_of runs ++ silences quiet
