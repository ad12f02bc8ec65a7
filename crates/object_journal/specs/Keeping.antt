-- What an object over a file of records holds, and what each answer says of it.
use Rattle.std.specs.Prelude.{◌≡◌, ◌⊎◌, ◌<◌, ◌+◌, ℕ, List, [], ◌∷◌, ◌++◌, length, Bool, true, false, if◌then◌else◌, Option, Some, None, Vec}
use Rattle.std.specs.declared.alloc.Global.{Global}
use Rattle.board_links.specs.Faults.{HasRisen}
use Rattle.room_object.specs.Entry.{Entry, entry}
use Rattle.record_file.specs.Ready.{longest}
use Rattle.record_file.specs.Records.{framed, HasRecords, IsSettled}
use Rattle.object_journal.specs.declared.kept_object.KeptReply.{KeptReply}
use Rattle.object_journal.specs.declared.kept_object.KeptReply.TheVariants.{StoreBroken, Full, NoMemory, Replied, NotKept}

abbrev pub IsUnlessKept : Option ℕ → Type 0 → Type 0
IsUnlessKept (Some place) P = Unit {0}
IsUnlessKept None P = P

module _ {C R : Type 0} (wanted : Option (List ℕ)) (records : List (Entry C) → List (List ℕ)) (reply : List (Entry C) → Entry C → R) (is_accepted : R → Bool) (h : List (Entry C)) (pass : ℕ) (call : C) where
  -- the payload is added where the call is accepted
  abbrev pub AddsPayload : List ℕ → Type 0
  AddsPayload payload = (starved : Bool) → records (entry pass call starved ∷ h) ≡ (if is_accepted (reply h (entry pass call starved)) then records h ++ payload ∷ [] else records h)

  pub record AddsFrame (frame : Vec ℕ Global) : Type 0 where
    pub payload : List ℕ
    pub asked : wanted ≡ Some payload
    pub is : frame.items ≡ framed payload
    pub adds : AddsPayload payload

  -- no record is added, or one of this frame, where the call is accepted
  abbrev pub Adds : Option (Vec ℕ Global) → Type 0
  Adds None = (wanted ≡ None) × ((starved : Bool) → records (entry pass call starved ∷ h) ≡ records h)
  Adds (Some frame) = AddsFrame frame

-- a record at this place would end, with its next gate, past the greatest length
abbrev pub IsPast : ℕ → Option (List ℕ) → Type 0
IsPast end None = ⊥
IsPast end (Some payload) = longest < end + length (framed payload) + 1

-- `Full` comes exactly there, unless there was no memory or the store is broken
abbrev pub IsFullBy : {R : Type 0} → ℕ → Option (List ℕ) → KeptReply R → Type 0
IsFullBy end payload (StoreBroken place) = Unit {0}
IsFullBy end payload (Full place) = IsPast end payload
IsFullBy end payload NoMemory = Unit {0}
IsFullBy end payload (Replied r) = IsPast end payload → ⊥
IsFullBy end payload (NotKept place) = IsPast end payload → ⊥

-- a file has these records or those
abbrev pub HasEither : List (List ℕ) → List (List ℕ) → List ℕ → Type 0
HasEither before after file = HasRecords file before ⊎ HasRecords file after

-- the object stands for a history, and the file has its records, all of them on the disk
pub record IsKeeping {O C D : Type 0} (stands_for : O → List (Entry C) → Type 0) (records : List (Entry C) → List (List ℕ)) (is_told : D → Type 0) (seen : D → List ℕ) (may_leave : D → List ℕ → Type 0) (object : O) (disk : D) (end : ℕ) (h : List (Entry C)) : Type 0 where
  pub stands : stands_for object h
  pub settled : IsSettled is_told seen may_leave disk end (records h)

-- `StoreBroken` comes exactly where a record could not be kept before, with its place
abbrev pub IsBrokenBy : {R : Type 0} → Option ℕ → KeptReply R → Type 0
IsBrokenBy (Some place) answer = answer ≡ StoreBroken place
IsBrokenBy None (StoreBroken place) = ⊥
IsBrokenBy None answer = Unit {0}

-- the store breaks exactly at a `NotKept`, which tells the gate's place and comes only where the disk failed
abbrev pub BreaksBy : {R : Type 0} → KeptReply R → ℕ → Option ℕ → Option ℕ → ℕ → ℕ → Type 0
BreaksBy (NotKept place) end broken broken_after faults faults_after = (place ≡ end) × (broken_after ≡ Some place) × HasRisen faults faults_after
BreaksBy answer end broken broken_after faults faults_after = broken_after ≡ broken

module _ {O C R D : Type 0} (stands_for : O → List (Entry C) → Type 0) (records : List (Entry C) → List (List ℕ)) (reply : List (Entry C) → Entry C → R) (is_starved is_accepted : R → Bool) (is_told : D → Type 0) (seen : D → List ℕ) (may_leave : D → List ℕ → Type 0) (faults : D → ℕ)
    (object : O) (disk : D) (end : ℕ) (broken : Option ℕ) (object_after : O) (disk_after : D) (end_after : ℕ) (broken_after : Option ℕ) (h : List (Entry C)) (pass : ℕ) (call : C) where
  -- all is as it was
  pub record IsSame : Type 0 where
    pub same_object : object_after ≡ object
    pub same_disk : disk_after ≡ disk
    pub same_end : end_after ≡ end
    pub same_break : broken_after ≡ broken

  abbrev pub Keeps : List (Entry C) → Type 0
  Keeps now = IsKeeping stands_for records is_told seen may_leave object_after disk_after end_after now

  -- what each answer says, after which the object keeps a history or has stopped
  abbrev pub Answers : KeptReply R → Type 0
  Answers (StoreBroken place) = (broken ≡ Some place) × IsSame
  Answers (Full place) = (place ≡ end) × (broken ≡ None) × IsSame
  Answers NoMemory = (broken ≡ None) × (broken_after ≡ None) × (Keeps h ⊎ Keeps (entry pass call true ∷ h))
  Answers (Replied r) = (broken ≡ None) × (broken_after ≡ None) × (is_starved r ≡ false) × (r ≡ reply h (entry pass call false)) × Keeps (entry pass call false ∷ h)
  Answers (NotKept place) = (is_accepted (reply h (entry pass call false)) ≡ true) × (place ≡ end) × (broken ≡ None) × (broken_after ≡ Some place) × HasRisen (faults disk) (faults disk_after)

-- what the object stands for after each answer, whatever its disk tells
module _ {O C R : Type 0} (stands_for : O → List (Entry C) → Type 0) (reply : List (Entry C) → Entry C → R) (is_starved is_accepted : R → Bool) (object object_after : O) (h : List (Entry C)) (pass : ℕ) (call : C) where
  abbrev pub StandsBy : KeptReply R → Type 0
  StandsBy (StoreBroken place) = object_after ≡ object
  StandsBy (Full place) = object_after ≡ object
  StandsBy NoMemory = stands_for object_after h ⊎ stands_for object_after (entry pass call true ∷ h)
  StandsBy (Replied r) = (is_starved r ≡ false) × (r ≡ reply h (entry pass call false)) × stands_for object_after (entry pass call false ∷ h)
  StandsBy (NotKept place) = (is_accepted (reply h (entry pass call false)) ≡ true) × stands_for object_after (entry pass call false ∷ h)
