-- What a reader of lines has come to, and which lines it has still to give.
use Rattle.std.specs.Prelude.{ℕ, ◌+◌, ◌≤◌, min, List, [], ◌++◌, length, Bool, false, if◌then◌else◌}
use Rattle.line_runner.specs.ScriptLines.{Script, Ended, no_lines, lines_from, last_line, most_bytes, most_lines}

-- the line that was given last, the bytes of the line that has begun, the bytes read after these, how many lines were given, and
-- whether the source has told its end
pub record Reader : Type 0 where
  pub line : List ℕ
  pub begun : List ℕ
  pub waiting : List ℕ
  pub given : ℕ
  pub ended : Bool

abbrev pub fresh : Reader
fresh = record { line = []; begun = []; waiting = []; given = 0; ended = false }

-- the lines of what has begun, of what waits and of these bytes
abbrev pub coming : (List ℕ → Script) → Reader → List ℕ → Script
coming last reader bytes = lines_from last reader.given reader.begun (reader.waiting ++ bytes)

-- the lines that are still to come where the source has these bytes left; after its end none are
abbrev pub to_come : Reader → List ℕ → Script
to_come reader left = if reader.ended then no_lines Ended else coming last_line reader left

-- as long as more bytes may come, a line that has begun is no whole line
abbrev pub no_whole_line : List ℕ → Script
no_whole_line line = no_lines Ended

-- the lines of these bytes that a newline ends
abbrev pub whole_lines : List ℕ → Script
whole_lines bytes = lines_from no_whole_line 0 [] bytes

-- the whole lines that are still to come where these bytes are read next
abbrev pub whole_to_come : Reader → List ℕ → Script
whole_to_come reader bytes = coming no_whole_line reader bytes

-- what a reader always keeps: a line that has begun is within its limit, and there is room for it in the count
pub record IsWithinLimits (begun : List ℕ) (given : ℕ) : Type 0 where
  pub short : length begun ≤ most_bytes
  pub few : given + min 1 (length begun) ≤ most_lines
