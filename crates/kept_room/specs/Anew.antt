-- A file that begins anew, with the records of fewer changes.
use Rattle.std.specs.Prelude.{◌≡◌, ◌≤◌, ℕ, Bool, List, [], length, None}
use Rattle.any_game.specs.AnyRules.{any_rules}
use Rattle.record_file.specs.Damage.{AllFollow}
use Rattle.record_file.specs.Ready.{longest}
use Rattle.record_file.specs.Records.{EndsAfter, open_records}
use Rattle.room_history.specs.Room.{serials, standing}
use Rattle.room_journal.specs.Kept.{may_follow, room_records}
use Rattle.room_object.specs.Entry.{Entry}
use Rattle.kept_room.specs.Journal.{Calls}

-- an object has come to a history by records alone, and these bytes are those of its records, each of which may follow those before it
pub record IsDraft {O C : Type 0} (stands_for has_come : O → List (Entry C) → Type 0) (records : List (Entry C) → List (List ℕ)) (follows : List (List ℕ) → List ℕ → Bool) (object : O) (bytes : List ℕ) (h : List (Entry C)) : Type 0 where
  pub stands : stands_for object h
  pub came : has_come object h
  pub is : bytes ≡ open_records (records h)
  pub follow : AllFollow follows [] (records h)

-- a file has the records of these calls, each of which may follow those before it; after them none of the matches that were made stands, which are so many
pub record IsCleared (room made : ℕ) (file : List ℕ) (h : Calls) : Type 0 where
  pub ends : EndsAfter file (room_records room h)
  pub few : length file ≤ longest
  pub follow : AllFollow (may_follow room) [] (room_records room h)
  pub made_are : serials any_rules room h ≡ made
  pub none_stands : standing any_rules room h ≡ None
