-- Which part of the program words are for.
use Rattle.std.specs.Prelude.{ℕ, if◌then◌else◌, ◌||◌, List, [], ◌∷◌, bytes_eq, codes, String, string_bytes}
use Rattle.board_commands.specs.declared.mode.Mode.{Mode}
use Rattle.board_commands.specs.declared.mode.Mode.TheVariants.{Help, Version, Serve, Play, Kept, Check, Ask, Run}

-- by the first word
abbrev pub mode_by : List ℕ → Mode
mode_by word =
    if bytes_eq word (codes "serve") then Serve
    else if bytes_eq word (codes "play") then Play
    else if bytes_eq word (codes "kept") then Kept
    else if bytes_eq word (codes "check") then Check
    else if bytes_eq word (codes "ask") then Ask else Run

-- by a word alone
abbrev pub mode_alone : List ℕ → Mode
mode_alone word =
    if bytes_eq word (codes "--help") || bytes_eq word (codes "-h") then Help
    else if bytes_eq word (codes "--version") then Version
    else mode_by word

abbrev pub mode_of : {A : Type 0} → List (String A) → Mode
mode_of [] = Run
mode_of (word ∷ []) = mode_alone (string_bytes word)
mode_of (word ∷ other ∷ words) = mode_by (string_bytes word)
