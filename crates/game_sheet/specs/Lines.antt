-- The lines of some bytes, each with its newline, and bytes that are one line.
use Rattle.std.specs.Prelude.{◌==◌, ℕ, suc, Bool, false, List, [], ◌∷◌, length, if◌then◌else◌}
use Rattle.std.specs.List.{onto_first}

-- cut after each newline; none is empty, and the last may have no newline
abbrev pub lines : List ℕ → List (List ℕ)
lines [] = []
lines (byte ∷ bytes) = if byte == 10 then (byte ∷ []) ∷ lines bytes else onto_first byte (lines bytes)

-- bytes that end with a newline and have no other
abbrev pub is_line : List ℕ → Bool
is_line [] = false
is_line (byte ∷ bytes) = if byte == 10 then length bytes == 0 else is_line bytes

-- how many bytes the first line has
abbrev pub first_length : List ℕ → ℕ
first_length [] = 0
first_length (byte ∷ bytes) = if byte == 10 then 1 else suc (first_length bytes)
