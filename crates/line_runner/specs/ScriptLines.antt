-- The lines of a script: what stands between newlines, without one carriage return directly before the newline. A last
-- line needs no newline, and then keeps its carriage return. The reading ends early at a line of more than 65,536 bytes,
-- its carriage return counted, and at a byte that follows the 1,000,000th newline.
use Rattle.std.specs.Prelude.{ℕ, ◌+◌, ◌-◌, ◌==◌, List, [], ◌∷◌, ◌++◌, length, take, slice_index, if◌then◌else◌}

pub data Ending : Type 0 where
  Ended : Ending
  TooLong : Ending
  TooMany : Ending

-- the lines in order, and why no more come
pub record Script : Type 0 where
  pub lines : List (List ℕ)
  pub ending : Ending

abbrev pub most_bytes : ℕ
most_bytes = 65536

abbrev pub most_lines : ℕ
most_lines = 1000000

abbrev pub no_lines : Ending → Script
no_lines ending = record { lines = []; ending = ending }

abbrev pub first_line : List ℕ → Script → Script
first_line line rest = record { lines = line ∷ rest.lines; ending = rest.ending }

abbrev pub without_return : List ℕ → List ℕ
without_return line = if slice_index line (length line - 1) == 13 then take (length line - 1) line else line

-- at the end of the bytes, a line that has begun is the last line
abbrev pub last_line : List ℕ → Script
last_line [] = no_lines Ended
last_line (b ∷ line) = first_line (b ∷ line) (no_lines Ended)

-- the lines of the bytes that are left, after so many newlines, where a line has begun with these bytes; `last` says what becomes
-- of a line that no newline ends
unfoldable pub lines_from : (List ℕ → Script) → ℕ → List ℕ → List ℕ → Script
lines_from last newlines begun [] = last begun
lines_from last newlines begun (b ∷ bytes) = if newlines == most_lines then no_lines TooMany else
    (if b == 10 then first_line (without_return begun) (lines_from last (newlines + 1) [] bytes) else
    (if length begun == most_bytes then no_lines TooLong else lines_from last newlines (begun ++ b ∷ []) bytes))

abbrev pub script : List ℕ → Script
script bytes = lines_from last_line 0 [] bytes
