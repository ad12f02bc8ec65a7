-- How a link shows the end of its session after a turn, whether it tells its bytes or not.
use Rattle.std.specs.Prelude.{◌≡◌, ℕ, List, Option, Some, IfSome}
use Rattle.board_links.specs.ByeLine.{bye_line}
use Rattle.board_links.specs.Doors.{EndsWith}
use Rattle.board_links.specs.Faults.{HasRisen}
use Rattle.board_links.specs.declared.link.SessionEnd.{SessionEnd}
use Rattle.board_links.specs.declared.link.SessionEnd.TheVariants as end
use Rattle.board_links.specs.declared.link.Stage.{Stage}
use Rattle.board_links.specs.declared.link.Stage.TheVariants as stage

-- after a turn: an end is answered only where the link told it, and a fault exactly where its count rose
abbrev pub ShowsEnd : ℕ → ℕ → Stage → Option SessionEnd → Type 0
ShowsEnd old new at (Some end.LinkFault) = HasRisen old new
ShowsEnd old new at (Some end.Ended) = (at ≡ stage.Ended) × (new ≡ old)
ShowsEnd old new at (Some end.TooLong) = (at ≡ stage.TooLong) × (new ≡ old)
ShowsEnd old new at why = new ≡ old

-- where the stream ended, its bye line was sent last
abbrev pub ByeSent : Option SessionEnd → Option (List ℕ) → Type 0
ByeSent (Some (end.Bye bye)) sent = IfSome sent (EndsWith (bye_line bye))
ByeSent why sent = Unit {0}
