-- Bytes in whole lines, and what of them was sent.
use Rattle.std.specs.Prelude.{◌≡◌, ℕ, List, [], ◌∷◌, ◌++◌, take, Option, Some, None}
use Rattle.board_links.specs.Answers.{AreLines}
use Rattle.board_links.specs.declared.link.SessionEnd.{SessionEnd}
use Rattle.board_links.specs.declared.link.SessionEnd.TheVariants as end
use Rattle.game_sheet.specs.Lines.{lines}

-- each of the lines has its newline
abbrev pub EachIsLine : List (List ℕ) → Type 0
EachIsLine [] = Unit {0}
EachIsLine (line ∷ more) = AreLines line × EachIsLine more

-- the last line has its newline too; or there are no bytes
abbrev pub AreWhole : List ℕ → Type 0
AreWhole bytes = EachIsLine (lines bytes)

-- these bytes were sent after those that had been; where a send ended the session, a first part of them
abbrev pub SentAs : Option SessionEnd → List ℕ → List ℕ → Option (List ℕ) → Type 0
SentAs None bytes sent after = after ≡ Some (sent ++ bytes)
SentAs (Some why) bytes sent after = (n : ℕ) × (after ≡ Some (sent ++ take n bytes))

-- a send ends a session by a fault of the link or for want of memory alone
abbrev pub IsSendEnd : Option SessionEnd → Type 0
IsSendEnd None = Unit {0}
IsSendEnd (Some end.LinkFault) = Unit {0}
IsSendEnd (Some end.NoMemory) = Unit {0}
IsSendEnd why = ⊥
