-- What the bytes of a source are where they were read, and why they weren't.
use Rattle.std.specs.Prelude.{◌≡◌, ◌<◌, ℕ, List, [], length, Option, Some}
use Rattle.board_links.specs.Faults.{HasRisen}
use Rattle.record_file.specs.Ready.{longest}
use Rattle.journal_bytes.specs.declared.given.NotGiven.{NotGiven}
use Rattle.journal_bytes.specs.declared.given.NotGiven.TheVariants.{ReadFault, Long, NoMemory}

-- all that the source had left was read
pub record GivesAll (bytes left : List ℕ) (after : Option (List ℕ)) : Type 0 where
  pub all : bytes ≡ left
  pub none_left : after ≡ Some []

abbrev pub IsNotGiven : NotGiven → List ℕ → Type 0
IsNotGiven ReadFault left = Unit {0}
IsNotGiven Long left = longest < length left
IsNotGiven NoMemory left = Unit {0}

abbrev pub NotGivenRaises : NotGiven → ℕ → ℕ → Type 0
NotGivenRaises ReadFault old new = HasRisen old new
NotGivenRaises Long old new = new ≡ old
NotGivenRaises NoMemory old new = new ≡ old
