-- A room, by what opening its file made.
use Rattle.std.proofs.Common.{◌≡◌, ◌≤◌, ℕ, true, false, List, Option, None, sym, ap, ◌∙◌, subst}
use Rattle.object_journal.specs.Keeping.{IsKeeping}
use Rattle.object_journal.specs.Opening.{IsOpened, StandsOpen}
use Rattle.record_file.specs.Records.{HasRecords}
use Rattle.room_disk.specs.Disk.{LeavesOnly, Only}
use Rattle.room_journal.specs.Coming.{ReadsBack}
use Rattle.room_journal.specs.Kept.{may_follow, room_records}
use Rattle.room_journal.specs.declared.room_book.RoomBook.{RoomBook}
use Rattle.kept_room.specs.Journal.{Calls, stands_in}
use Rattle.kept_room.specs.Opened.{IsOpenedRoom}
use Rattle.kept_room.specs.declared.room.KeptRoom.{KeptRoom}

module _ {D : Type 0} (is_told : D → Type 0) (seen : D → List ℕ) (may_leave : D → List ℕ → Type 0) (moment : D → ℕ) (left_since : D → ℕ → List ℕ → Type 0) (faults : D → ℕ) where
  module _ (room : ℕ) (start : D) (object : RoomBook) (disk : D) (end : ℕ) (broken : Option ℕ) (r : KeptRoom D) (is_object : r.object ≡ object) (is_disk : r.file.disk ≡ disk) (is_end : r.file.end ≡ end)
      (whole : r.stopped ≡ None) (numbered : object.room ≡ room) (never_falls : faults start ≤ faults disk) where
    same_number : r.object.room ≡ room
    same_number = ap (λ (o : RoomBook). o.room) is_object ∙ numbered

    higher : faults start ≤ faults r.file.disk
    higher = subst (λ (d : D). faults start ≤ faults d) (sym is_disk) never_falls

    so_opened : (h : Calls) → StandsOpen stands_in (λ (b : RoomBook) (l : Calls). ReadsBack room l) (room_records room) (may_follow room) object end broken h
        → IsOpenedRoom is_told seen may_leave moment left_since faults room start h false r
    so_opened h o = record {
      numbered = same_number;
      whole = whole;
      stands = subst (λ (b : RoomBook). stands_in b h) (sym is_object) o.stands;
      journal = record {
        stands = subst (λ (b : RoomBook). stands_in b h) (sym is_object) o.stands;
        keeps = λ e. absurd (false_true e);
        crash = λ e. absurd (false_true e);
        fits = λ e. tt;
        never_falls = higher;
      };
      had = λ e. absurd (false_true e);
      only = λ e. absurd (false_true e);
      reads = o.came;
      follow = o.follow;
    }
      where
        false_true : false ≡ true → ⊥
        false_true e = cc

    abbrev At : Calls → RoomBook → D → ℕ → Type 0
    At h b d n = IsKeeping stands_in (room_records b.room) is_told seen may_leave b d n h

    abbrev Came : Calls → Type 0
    Came h = IsOpened stands_in (λ (b : RoomBook) (l : Calls). ReadsBack room l) (room_records room) (may_follow room) is_told seen may_leave start object disk end broken h

    module _ (crash : is_told start → Only (seen start) (may_leave start) → (records : List (List ℕ)) → HasRecords (seen start) records → LeavesOnly moment left_since start disk (λ c. HasRecords c records)) where
      told_opened : (h : Calls) → is_told start → Came h → IsOpenedRoom is_told seen may_leave moment left_since faults room start h true r
      told_opened h told o = record {
        numbered = same_number;
        whole = whole;
        stands = subst (λ (b : RoomBook). stands_in b h) (sym is_object) o.keeping.stands;
        journal = record {
          stands = subst (λ (b : RoomBook). stands_in b h) (sym is_object) o.keeping.stands;
          keeps = λ e. keeps;
          crash = λ e only. subst (λ (d : D). LeavesOnly moment left_since start d (λ c. HasRecords c (room_records room h))) (sym is_disk) (crash told only (room_records room h) o.had);
          fits = λ e. tt;
          never_falls = higher;
        };
        had = λ e. o.had;
        only = λ e. o.only;
        reads = o.came;
        follow = o.follow;
      }
        where
          keeps : At h r.object r.file.disk r.file.end
          keeps =
              subst (λ (n : ℕ). At h r.object r.file.disk n) (sym is_end)
              (subst (λ (d : D). At h r.object d end) (sym is_disk)
              (subst (λ (b : RoomBook). At h b disk end) (sym is_object)
              (subst (λ (n : ℕ). IsKeeping stands_in (room_records n) is_told seen may_leave object disk end h) (sym numbered) o.keeping)))

      -- the room was opened by a history, and by the very same where its disk goes by the model
      pub opened_so : ((h : Calls) × StandsOpen stands_in (λ (b : RoomBook) (l : Calls). ReadsBack room l) (room_records room) (may_follow room) object end broken h × (is_told start → Came h))
          → (first : Calls) × IsOpenedRoom is_told seen may_leave moment left_since faults room start first false r × (is_told start → IsOpenedRoom is_told seen may_leave moment left_since faults room start first true r)
      opened_so (h, o, came) = (h, so_opened h o, λ told. told_opened h told (came told))
