-- What the words of a call of the program ask for.
use Rattle.std.specs.Prelude.{ℕ, if◌then◌else◌, ◌&&◌, nat_le, List, [], ◌∷◌, Option, Some, None, bytes_eq, codes, String, string_bytes}
use Rattle.board_commands.specs.declared.command.Command.{Command}
use Rattle.board_commands.specs.declared.command.Command.TheVariants.{Script, World, Replay, Workload}
use Rattle.wire_json.specs.MatchText.{number_from}

-- what a word alone asks for
abbrev pub command_by : List ℕ → Option Command
command_by word = if bytes_eq word (codes "script") then Some Script
    else if bytes_eq word (codes "world") then Some World
    else if bytes_eq word (codes "replay") then Some Replay
    else None

-- a workload of two numbers: of any seed, and of 1 to 1,000,000 steps
abbrev pub workload_of : Option ℕ → Option ℕ → Option Command
workload_of (Some seed) (Some steps) = if nat_le 1 steps && nat_le steps 1000000 then Some (Workload seed steps) else None
workload_of seed steps = None

-- what three words ask for; the numbers are below 2^64, in decimal without a sign or a leading zero
abbrev pub workload_by : List ℕ → List ℕ → List ℕ → Option Command
workload_by word seed steps = if bytes_eq word (codes "workload") then workload_of (number_from seed) (number_from steps) else None

-- what words ask for; none where they are in no form
abbrev pub command_of : {A : Type 0} → List (String A) → Option Command
command_of (word ∷ []) = command_by (string_bytes word)
command_of (word ∷ seed ∷ steps ∷ []) = workload_by (string_bytes word) (string_bytes seed) (string_bytes steps)
command_of other = None
