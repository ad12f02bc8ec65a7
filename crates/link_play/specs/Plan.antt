-- What the lines of a source ask for: the commands before the line that ends the run, if one does, and how that line ends it.
use Rattle.std.specs.Prelude.{ℕ, ◌+◌, List, [], ◌∷◌, ◌++◌, Option, Some, None}
use Rattle.link_play.specs.Commands.{Command, Syncs, Ends, command_of}

pub data Close : Type 0 where
  -- no line ends the run
  Open : Close
  -- an `end`
  AtEnd : Close
  -- the line of this number, counted from 1, is in no form
  AtBad : ℕ → Close

pub record Plan : Type 0 where
  pub commands : List Command
  pub close : Close

-- these commands, and then those of a plan
abbrev pub behind : List Command → Plan → Plan
behind commands p = record { commands = commands ++ p.commands; close = p.close }

abbrev pub with_command : Command → Plan → Plan
with_command Ends rest = record { commands = []; close = AtEnd }
with_command c rest = behind (c ∷ []) rest

abbrev pub with_line : Option Command → ℕ → Plan → Plan
with_line None given rest = record { commands = []; close = AtBad (given + 1) }
with_line (Some c) given rest = with_command c rest

-- the plan of lines before which so many came
abbrev pub plan_from : ℕ → List (List ℕ) → Plan
plan_from given [] = record { commands = []; close = Open }
plan_from given (line ∷ lines) = with_line (command_of line) given (plan_from (given + 1) lines)

-- the plan of a run: it asks for the stream of the match first
unfoldable pub plan_of : List (List ℕ) → Plan
plan_of lines = behind (Syncs ∷ []) (plan_from 0 lines)
