-- What the answers of a link say of the answers and bytes that it tells, and of its count of faults.
use Rattle.std.specs.Prelude.{◌≡◌, ◌≤◌, ℕ, List, [], ◌∷◌, ◌++◌, length, take, Option, Some, option_map}
use Rattle.board_links.specs.declared.link.Came.{Came}
use Rattle.board_links.specs.declared.link.Came.TheVariants as came
use Rattle.board_links.specs.declared.link.Out.{Out}
use Rattle.board_links.specs.declared.link.Out.TheVariants as out
use Rattle.board_links.specs.declared.link.Stage.{Stage}
use Rattle.board_links.specs.declared.link.Stage.TheVariants as stage
use Rattle.board_links.specs.Faults.{HasRisen}

-- whole lines: the bytes end with a newline
abbrev pub AreLines : List ℕ → Type 0
AreLines bytes = (before : List ℕ) × (bytes ≡ before ++ 10 ∷ [])

-- the count of faults rose at a receive that fails, and stayed at any other
abbrev pub CameRaises : Came → ℕ → ℕ → Type 0
CameRaises came.Failed old new = HasRisen old new
CameRaises answer old new = new ≡ old

-- a line that comes has no more bytes than the limit
abbrev pub IsWithin : ℕ → Came → Type 0
IsWithin limit (came.Line bytes) = length bytes ≤ limit
IsWithin limit answer = Unit {0}

-- what a link tells of its end after a receive; want of memory leaves it
abbrev pub stage_after : Came → Stage → Stage
stage_after came.Ended old = stage.Ended
stage_after came.TooLong old = stage.TooLong
stage_after came.NoMemory old = old
stage_after answer old = stage.Open

-- an answer comes after the earlier ones; want of memory isn't told
abbrev pub with_answer : Came → List Came → List Came
with_answer came.NoMemory told = told
with_answer answer told = told ++ answer ∷ []

abbrev pub answers_after : Came → Option (List Came) → Option (List Came)
answers_after answer told = option_map (with_answer answer) told

-- the count of faults rose at a send that fails, and stayed at any other
abbrev pub OutRaises : Out → ℕ → ℕ → Type 0
OutRaises out.Failed old new = HasRisen old new
OutRaises answer old new = new ≡ old

-- with these bytes sent: the new ones go to the end, and where they weren't all taken some first part of them
abbrev pub Sends : Out → List ℕ → List ℕ → Option (List ℕ) → Type 0
Sends out.Done bytes sent after = after ≡ Some (sent ++ bytes)
Sends answer bytes sent after = (n : ℕ) × (after ≡ Some (sent ++ take n bytes))
