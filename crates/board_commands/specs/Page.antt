-- How the printing of a page ends.
use Rattle.std.specs.Prelude.{◌≡◌, ℕ, List, ◌++◌, take, Option, Some}
use Rattle.board_links.specs.Faults.{HasRisen}
use Rattle.line_runner.specs.declared.exit.Exit.{Exit}
use Rattle.line_runner.specs.declared.exit.Exit.TheVariants.{Done, WriteFault}

abbrev pub PageEnds : Exit → List ℕ → List ℕ → Option (List ℕ) → Type 0
PageEnds Done page before after = after ≡ Some (before ++ page)
PageEnds WriteFault page before after = (n : ℕ) × (after ≡ Some (before ++ take n page))
PageEnds other page before after = ⊥

abbrev pub PageRaises : Exit → ℕ → ℕ → Type 0
PageRaises Done old new = new ≡ old
PageRaises WriteFault old new = HasRisen old new
PageRaises other old new = ⊥
