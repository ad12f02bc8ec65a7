-- What a record makes of an object, and what all records of a file come to.
use Rattle.std.specs.Prelude.{◌≡◌, ℕ, Bool, true, false, List, [], ◌∷◌, ◌++◌, length}
use Rattle.room_object.specs.Entry.{Entry}
use Rattle.record_file.specs.Records.{EndsAfter, open_records}
use Rattle.record_file.specs.Damage.{AllFollow, IsDamaged}
use Rattle.object_journal.specs.declared.replaying.OpenNo.{OpenNo}
use Rattle.object_journal.specs.declared.replaying.OpenNo.TheVariants as open_no
use Rattle.object_journal.specs.declared.replaying.Replayed.{Replayed}
use Rattle.object_journal.specs.declared.replaying.Replayed.TheVariants as replayed

module _ {O C : Type 0} (stands_for has_come : O → List (Entry C) → Type 0) (records : List (Entry C) → List (List ℕ)) (may_follow : List (List ℕ) → List ℕ → Bool) where
  -- the object stands for a longer history, whose records end with the payload
  pub record HasMade (h : List (Entry C)) (payload : List ℕ) (object : O) : Type 0 where
    pub after : List (Entry C)
    pub stands : stands_for object after
    pub came : has_come object after
    pub adds : records after ≡ records h ++ payload ∷ []
    pub follows : may_follow (records h) payload ≡ true

  abbrev pub Replay : List (Entry C) → List ℕ → O → Replayed → Type 0
  Replay h payload object replayed.Done = HasMade h payload object
  Replay h payload object replayed.Refused = may_follow (records h) payload ≡ false
  Replay h payload object replayed.NoMemory = Unit {0}

  -- the object has come to a history that has just the records of the file, which end at this place
  pub record Came (object : O) (file : List ℕ) (end : ℕ) (h : List (Entry C)) : Type 0 where
    pub stands : stands_for object h
    pub came : has_come object h
    pub ends : EndsAfter file (records h)
    pub place : end ≡ length (open_records (records h))
    pub follow : AllFollow may_follow [] (records h)

abbrev pub IsRefusal : (List (List ℕ) → List ℕ → Bool) → List ℕ → OpenNo → Type 0
IsRefusal may_follow file open_no.DiskFault = ⊥
IsRefusal may_follow file open_no.Long = ⊥
IsRefusal may_follow file (open_no.Damaged place) = IsDamaged may_follow file place
IsRefusal may_follow file open_no.NoMemory = Unit {0}
