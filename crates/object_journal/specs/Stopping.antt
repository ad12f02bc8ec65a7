-- Why the record of a call wasn't kept.
use Rattle.std.specs.Prelude.{◌≡◌, ◌≤◌, ℕ, Option, Some, None}
use Rattle.board_links.specs.Faults.{HasRisen}
use Rattle.object_journal.specs.declared.performing.Stop.{Stop}
use Rattle.object_journal.specs.declared.performing.Stop.TheVariants.{NoMemory, Full, NotKept}

-- the place is that of the record's gate, and the disk failed where the record wasn't kept for it; its count of faults never falls
abbrev pub HasCause : Option Stop → ℕ → ℕ → ℕ → Type 0
HasCause None end faults faults_after = faults ≤ faults_after
HasCause (Some NoMemory) end faults faults_after = faults ≤ faults_after
HasCause (Some (Full place)) end faults faults_after = (place ≡ end) × (faults ≤ faults_after)
HasCause (Some (NotKept place)) end faults faults_after = (place ≡ end) × HasRisen faults faults_after
