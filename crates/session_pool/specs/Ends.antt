-- What sends show of the end of a session, whether a link tells its bytes or not.
use Rattle.std.specs.Prelude.{◌≡◌, ℕ, Option, Some}
use Rattle.board_links.specs.Faults.{HasRisen}
use Rattle.board_links.specs.declared.link.SessionEnd.{SessionEnd}
use Rattle.board_links.specs.declared.link.SessionEnd.TheVariants as end

-- after sends: no end is told, and a fault of the link is answered exactly where its count rose
abbrev pub ShowsWhy : ℕ → ℕ → Option SessionEnd → Type 0
ShowsWhy old new (Some end.LinkFault) = HasRisen old new
ShowsWhy old new (Some end.Ended) = ⊥
ShowsWhy old new (Some end.TooLong) = ⊥
ShowsWhy old new why = new ≡ old
