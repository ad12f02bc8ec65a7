-- What a workload prints, over eight rooms: its transcript, whole or a first part of it.
use Rattle.std.specs.Prelude.{◌≡◌, ℕ, List, ◌++◌, take, Option, Some}
use Rattle.any_game.specs.AnyRules.{any_rules, named}
use Rattle.hall_history.specs.Tapes.{hall_tape, steps_tape}
use Rattle.world_history.specs.Workload.{transcript}
use Rattle.line_runner.specs.declared.exit.Exit.{Exit}
use Rattle.line_runner.specs.declared.exit.Exit.TheVariants.{Done, WriteFault, NoMemory}

abbrev pub workload_text : ℕ → ℕ → List ℕ
workload_text seed steps = transcript named any_rules hall_tape (steps_tape seed) 8 steps

-- what was added to the bytes that a sink held, by how the run ends
abbrev pub Prints : Exit → List ℕ → List ℕ → Option (List ℕ) → Type 0
Prints Done text before after = after ≡ Some (before ++ text)
Prints WriteFault text before after = (n : ℕ) × (after ≡ Some (before ++ take n text))
Prints NoMemory text before after = after ≡ Some before
Prints other text before after = ⊥
