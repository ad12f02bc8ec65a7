-- Records one after another in a file, each behind a gate.
use Rattle.std.specs.Prelude.{◌≡◌, ◌≢◌, ◌⊎◌, ◌≤◌, ℕ, List, [], ◌∷◌, ◌++◌, length, flat_map}
use Rattle.std.specs.Int.{to_le_bytes, w32}
use Rattle.board_links.specs.Faults.{HasRisen}
use Rattle.board_links.specs.declared.sink.Put.{Put}
use Rattle.board_links.specs.declared.sink.Put.TheVariants as put
use Rattle.room_disk.specs.Disk.{Only}

-- a record behind its gate: the length of its payload in 4 bytes, least first, and the payload
abbrev pub record_bytes : List ℕ → List ℕ
record_bytes payload = to_le_bytes w32 (length payload) ++ payload

-- a record with a closed gate behind it
abbrev pub framed : List ℕ → List ℕ
framed payload = record_bytes payload ++ 0 ∷ []

-- records one after another, each behind an open gate
abbrev pub open_records : List (List ℕ) → List ℕ
open_records records = flat_map (λ payload. 1 ∷ record_bytes payload) records

-- several records behind the first one's gate, and with a closed gate behind them
abbrev pub behind : List ℕ → List (List ℕ) → List ℕ
behind payload more = record_bytes payload ++ open_records more

abbrev pub framed_all : List ℕ → List (List ℕ) → List ℕ
framed_all payload more = behind payload more ++ 0 ∷ []

-- these records stand at the front of the file, and the gate behind them isn't open; what follows it is passed over
pub record EndsAfter (file : List ℕ) (records : List (List ℕ)) : Type 0 where
  pub gate : ℕ
  pub rest : List ℕ
  pub shut : gate ≢ 1
  pub split : file ≡ open_records records ++ gate ∷ rest

-- the records of a file; one of at most one byte has none
abbrev pub HasRecords : List ℕ → List (List ℕ) → Type 0
HasRecords file records = ((length file ≤ 1) × (records ≡ [])) ⊎ EndsAfter file records

-- a file at rest on a disk that goes by the model: it has these records, the next gate's place is known, and a crash leaves just what is there
pub record IsSettled {D : Type 0} (is_told : D → Type 0) (seen : D → List ℕ) (may_leave : D → List ℕ → Type 0) (disk : D) (end : ℕ) (records : List (List ℕ)) : Type 0 where
  pub told : is_told disk
  pub stands : EndsAfter (seen disk) records
  pub place : end ≡ length (open_records records)
  pub durable : Only (seen disk) (may_leave disk)

-- the records from before, with all of the new ones or with none
abbrev pub IsBeforeOrAfter : List (List ℕ) → List (List ℕ) → List ℕ → Type 0
IsBeforeOrAfter records batch file = HasRecords file records ⊎ HasRecords file (records ++ batch)

abbrev pub IfDone : Put → Type 0 → Type 0
IfDone put.Done P = P
IfDone put.Failed P = Unit {0}

-- the count of faults never falls, and has risen where a call failed
abbrev pub HasCause : Put → ℕ → ℕ → Type 0
HasCause put.Done old new = old ≤ new
HasCause put.Failed old new = HasRisen old new
