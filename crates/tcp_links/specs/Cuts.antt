-- How lines are cut out of bytes that come piece by piece, and what a link over a socket answers by them.
use Rattle.std.specs.Prelude.{◌≡◌, ◌≤◌, ◌<◌, ◌+◌, ◌++◌, ◌∷◌, ℕ, List, length}
use Rattle.board_links.specs.declared.link.Came.{Came}
use Rattle.board_links.specs.declared.link.Came.TheVariants as came
use Rattle.tcp_links.specs.declared.line_buffer.Cut.{Cut}
use Rattle.tcp_links.specs.declared.line_buffer.Cut.TheVariants as cut
use Rattle.tcp_links.specs.declared.line_buffer.Fill.{Fill}
use Rattle.tcp_links.specs.declared.line_buffer.Fill.TheVariants as fill
use Rattle.tcp_links.specs.Newlines.{NoNewline}

-- bytes come at the end
abbrev pub Grows : List ℕ → List ℕ → Type 0
Grows old new = (more : List ℕ) × (new ≡ old ++ more)

-- a read adds bytes, or changes nothing
abbrev pub Fills : Fill → List ℕ → List ℕ → Type 0
Fills fill.Some old new = Grows old new
Fills answer old new = new ≡ old

-- no whole line stands there, and what does is within the limit
abbrev pub IsPart : ℕ → List ℕ → Type 0
IsPart limit bytes = (length bytes ≤ limit) × NoNewline bytes (length bytes)

-- what is cut out of the bytes that are held, and what is held then: a line comes off the front with its newline, and nothing else
-- does; a line is too long where more bytes than the limit come before any newline
abbrev pub Cuts : ℕ → Cut → List ℕ → List ℕ → Type 0
Cuts limit (cut.Line line) old new = (length line ≤ limit) × NoNewline old (length line) × (old ≡ line ++ 10 ∷ new)
Cuts limit cut.Part old new = IsPart limit old × (new ≡ old)
Cuts limit cut.TooLong old new = (limit < length old) × NoNewline old (limit + 1) × (new ≡ old)
Cuts limit cut.NoMemory old new = new ≡ old

-- what an answer cuts out: silence, an end and a fault come where no whole line stands
abbrev pub cut_of : Came → Cut
cut_of (came.Line line) = cut.Line line
cut_of came.TooLong = cut.TooLong
cut_of came.NoMemory = cut.NoMemory
cut_of answer = cut.Part

-- a link that held the old bytes got some more, answered by all of them, and kept the rest
abbrev pub Comes : ℕ → Came → List ℕ → List ℕ → Type 0
Comes limit answer old new = (more : List ℕ) × Cuts limit (cut_of answer) (old ++ more) new
