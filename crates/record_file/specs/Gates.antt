-- What stands at a gate, and why a file wasn't read.
use Rattle.std.specs.Prelude.{◌≡◌, ◌≢◌, ◌<◌, ◌+◌, ℕ, List, ◌∷◌, ◌++◌, length, take, drop}
use Rattle.board_links.specs.Faults.{HasRisen}
use Rattle.record_file.specs.Records.{record_bytes}
use Rattle.record_file.specs.declared.gates.Gate.{Gate}
use Rattle.record_file.specs.declared.gates.Gate.TheVariants.{Closed, Record, Broken}
use Rattle.record_file.specs.declared.reading.NotRead.{NotRead}
use Rattle.record_file.specs.declared.reading.NotRead.TheVariants.{DiskFault, NoMemory}

pub record IsShut (bytes : List ℕ) : Type 0 where
  pub gate : ℕ
  pub rest : List ℕ
  pub shut : gate ≢ 1
  pub split : bytes ≡ gate ∷ rest

-- behind the gate stands a record whole, and then another gate
pub record HasWhole (behind payload : List ℕ) : Type 0 where
  pub gate : ℕ
  pub rest : List ℕ
  pub split : behind ≡ record_bytes payload ++ gate ∷ rest

abbrev pub IsGate : Gate → List ℕ → Type 0
IsGate Closed bytes = IsShut bytes
IsGate (Record count) bytes = (bytes ≡ 1 ∷ (record_bytes (take count (drop 5 bytes)) ++ drop (5 + count) bytes)) × (5 + count < length bytes)
IsGate Broken bytes = (behind : List ℕ) × (bytes ≡ 1 ∷ behind) × ((payload : List ℕ) → HasWhole behind payload → ⊥)

abbrev pub IsCause : NotRead → ℕ → ℕ → Type 0
IsCause DiskFault old new = HasRisen old new
IsCause NoMemory old new = Unit {0}
