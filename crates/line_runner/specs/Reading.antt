-- What an answer of a reader of lines says of the lines that are still to come, and of its source.
use Rattle.std.specs.Prelude.{◌≡◌, ℕ, ◌+◌, ◌<◌, ◌≤◌, List, [], ◌∷◌, ◌++◌, length, drop, true, false, Option, Some, None}
use Rattle.board_links.specs.Faults.{HasRisen}
use Rattle.board_links.specs.declared.source.Piece.{Piece}
use Rattle.board_links.specs.declared.source.Piece.TheVariants as source
use Rattle.line_runner.specs.declared.next.Next.{Next}
use Rattle.line_runner.specs.declared.next.Next.TheVariants as next
use Rattle.line_runner.specs.declared.next.Peeked.{Peeked}
use Rattle.line_runner.specs.declared.next.Peeked.TheVariants.{Byte, End, Failed}
use Rattle.line_runner.specs.Reader.{Reader, to_come, whole_to_come}
use Rattle.line_runner.specs.ScriptLines.{Script, Ended, TooLong, TooMany, no_lines, first_line}

-- an answer beside the lines to come before and after it: a line is the first of them, an ending is all that there is, and
-- a fault or want of memory loses none of them
abbrev pub Answers : Next → List ℕ → Script → Script → Type 0
Answers next.Line line before after = before ≡ first_line line after
Answers next.End line before after = (before ≡ no_lines Ended) × (after ≡ before)
Answers next.TooLong line before after = (before ≡ no_lines TooLong) × (after ≡ before)
Answers next.TooMany line before after = (before ≡ no_lines TooMany) × (after ≡ before)
Answers next.ReadFault line before after = after ≡ before
Answers next.NoMemory line before after = after ≡ before

-- the count of faults rose at a fault, and stayed otherwise
abbrev pub Raises : Next → ℕ → ℕ → Type 0
Raises next.Line old new = new ≡ old
Raises next.End old new = new ≡ old
Raises next.TooLong old new = new ≡ old
Raises next.TooMany old new = new ≡ old
Raises next.ReadFault old new = HasRisen old new
Raises next.NoMemory old new = new ≡ old

-- a line counts, nothing else does
abbrev pub given_after : Next → ℕ → ℕ
given_after next.Line given = given + 1
given_after next.End given = given
given_after next.TooLong given = given
given_after next.TooMany given = given
given_after next.ReadFault given = given
given_after next.NoMemory given = given

-- what a look at the next byte read of the bytes left: it waits behind what waited before
pub record Gains (old new before after : List ℕ) : Type 0 where
  pub read : List ℕ
  pub first_part : before ≡ read ++ after
  pub behind : new ≡ old ++ read

-- the end is seen where no byte is left
abbrev pub SeesEnd : Peeked → List ℕ → Type 0
SeesEnd (Byte b) after = Unit {0}
SeesEnd End after = after ≡ []
SeesEnd Failed after = Unit {0}

-- the byte seen is the first of those that wait
abbrev pub Shows : Peeked → List ℕ → Type 0
Shows (Byte b) waiting = waiting ≡ b ∷ drop 1 waiting
Shows End waiting = waiting ≡ []
Shows Failed waiting = waiting ≡ []

abbrev pub PeekRaises : Peeked → ℕ → ℕ → Type 0
PeekRaises (Byte b) old new = new ≡ old
PeekRaises End old new = new ≡ old
PeekRaises Failed old new = HasRisen old new

-- what a read leaves waiting, beside the bytes left before and after it
abbrev pub Fills : Piece → List ℕ → List ℕ → List ℕ → Type 0
Fills (source.Got n) before waiting after = before ≡ waiting ++ after
Fills source.End before waiting after = (before ≡ []) × (after ≡ [])
Fills source.Failed before waiting after = after ≡ before

-- a piece leaves a byte waiting, everything else none
abbrev pub HasBytes : Piece → List ℕ → Type 0
HasBytes (source.Got n) waiting = 0 < length waiting
HasBytes source.End waiting = waiting ≡ []
HasBytes source.Failed waiting = waiting ≡ []

-- one step of a reader: with no answer yet, the same lines are to come
abbrev pub Steps : Option Next → List ℕ → Script → Script → Type 0
Steps None line before after = after ≡ before
Steps (Some answer) line before after = Answers answer line before after

abbrev pub StepRaises : Option Next → ℕ → ℕ → Type 0
StepRaises None old new = new ≡ old
StepRaises (Some answer) old new = Raises answer old new

abbrev pub given_by : Option Next → ℕ → ℕ
given_by None given = given
given_by (Some answer) given = given_after answer given

-- after an end the source has told it; after a fault it hasn't, and nothing that was read waits
abbrev pub StandsAt : Option Next → Reader → Type 0
StandsAt None reader = Unit {0}
StandsAt (Some next.Line) reader = Unit {0}
StandsAt (Some next.End) reader = reader.ended ≡ true
StandsAt (Some next.TooLong) reader = Unit {0}
StandsAt (Some next.TooMany) reader = Unit {0}
StandsAt (Some next.ReadFault) reader = (reader.ended ≡ false) × (reader.waiting ≡ [])
StandsAt (Some next.NoMemory) reader = Unit {0}

-- an answer of a reader, or none yet, beside the bytes that its source has left before and after: what was read for it is a first
-- part of them. The lines to come lose the line of the answer; as long as the end wasn't told, so do the whole lines, whatever
-- bytes follow.
pub record Moves (answer : Option Next) (line : List ℕ) (old new : Reader) (before after : List ℕ) : Type 0 where
  pub read : List ℕ
  pub first_part : before ≡ read ++ after
  pub lines : Steps answer line (to_come old before) (to_come new after)
  pub not_yet : new.ended ≡ false → old.ended ≡ false
  pub at_end : new.ended ≡ true → old.ended ≡ false → after ≡ []
  pub whole : new.ended ≡ false → (more : List ℕ) → Steps answer line (whole_to_come old (read ++ more)) (whole_to_come new more)

-- with no answer yet, the line that has begun has more bytes
abbrev pub Grows : Option Next → List ℕ → List ℕ → Type 0
Grows None old new = (length old < length new) × (length new ≤ 65536)
Grows (Some answer) old new = Unit {0}
