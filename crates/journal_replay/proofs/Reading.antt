-- What a book that was opened from the bytes of a journal says of them.
use Rattle.std.proofs.Common.{◌≡◌, ℕ, List, length, Option, ap, ◌∙◌, subst}
use Rattle.std.proofs.lemmas.List.{length-map}
use Rattle.any_game.specs.AnyRules.{any_rules}
use Rattle.any_game.specs.GameKind.{GameKind}
use Rattle.object_journal.specs.Opening.{IsOpened}
use Rattle.record_file.specs.Records.{HasRecords}
use Rattle.room_changes.specs.ChangesOf.{changes_of}
use Rattle.room_changes.proofs.Making.{makes}
use Rattle.room_history.specs.Room.{serials, standing}
use Rattle.room_history.specs.declared.call.RoomCall.{RoomCall}
use Rattle.room_journal.specs.Coming.{ReadsBack, StandsIn}
use Rattle.room_journal.specs.Kept.{may_follow, room_records}
use Rattle.room_journal.specs.declared.room_book.RoomBook.{RoomBook}
use Rattle.room_object.specs.Entry.{Entry}
use Rattle.change_text.specs.Payload.{payload}
use Rattle.journal_replay.specs.ReplayText.{replay_text}
use Rattle.journal_replay.specs.Replaying.{Opens, Replays}

abbrev Entries : Type 0
Entries = List (Entry (RoomCall GameKind))

pub opens : {D : Type 0} (is_told : D → Type 0) (seen : D → List ℕ) (may_leave : D → List ℕ → Type 0) (disk after : D) (end : ℕ) (broken : Option ℕ) (file : List ℕ) (count : ℕ) (book : RoomBook) → book.room ≡ 0 → seen disk ≡ file
    → ((records : List (List ℕ)) → HasRecords file records → count ≡ length records)
    → ((h : Entries) × IsOpened (λ (b : RoomBook) (h : Entries). StandsIn b.room b.book h) (λ (b : RoomBook) (h : Entries). ReadsBack 0 h) (room_records 0) (may_follow 0) is_told seen may_leave disk book after end broken h) → Opens file count book
opens is_told seen may_leave disk after end broken file count book first is counts o =
    let has : HasRecords file (room_records 0 o.0) = subst (λ (l : List ℕ). HasRecords l (room_records 0 o.0)) is o.1.had in
    record {
      h = o.0;
      first = first;
      stands = o.1.keeping.stands;
      has = has;
      reads = o.1.came;
      follow = o.1.follow;
      counts = counts (room_records 0 o.0) has ∙ length-map (changes_of any_rules 0 o.0) (payload any_rules);
    }

pub replayed : (file text : List ℕ) (count : ℕ) (book : RoomBook) (o : Opens file count book) → text ≡ replay_text book.room count (standing any_rules book.room o.h) → Replays file text
replayed file text count book o is = record {
  changes = changes_of any_rules 0 o.h;
  room = record { serials = serials any_rules 0 o.h; standing = standing any_rules 0 o.h };
  has = o.has;
  reads = o.reads;
  follow = o.follow;
  makes = makes any_rules 0 o.h;
  says = is ∙ ap (λ (n : ℕ). replay_text n count (standing any_rules n o.h)) o.first ∙ ap (λ (n : ℕ). replay_text 0 n (standing any_rules 0 o.h)) o.counts;
}
