-- A room that was opened is opened still where its passes were detached.
use Rattle.std.proofs.Common.{◌≡◌, ◌≤◌, ℕ, List, [], length, Option, Some, sym, ap, ◌∙◌, subst}
use Rattle.any_game.specs.AnyRules.{any_rules}
use Rattle.any_game.specs.GameKind.{GameKind}
use Rattle.match_master.specs.Held.{StandsFor}
use Rattle.object_journal.specs.Opening.{IsOpened, StandsOpen}
use Rattle.record_file.specs.Damage.{AllFollow}
use Rattle.record_file.specs.Records.{HasRecords, IsSettled, open_records}
use Rattle.room_changes.specs.declared.change.Change.{Change}
use Rattle.room_history.specs.declared.call.RoomCall.{RoomCall}
use Rattle.room_object.specs.Entry.{Entry}
use Rattle.room_journal.specs.Coming.{HasCome, HasStayed, ReadsBack, StandsIn}
use Rattle.room_journal.specs.Kept.{changes_read, may_follow, room_records, texts}
use Rattle.room_journal.specs.declared.room_book.RoomBook.{RoomBook}

abbrev pub Entries : Type 0
Entries = List (Entry (RoomCall GameKind))

abbrev pub Stands : RoomBook → Entries → Type 0
Stands b h = StandsIn b.room b.book h

-- it came there by its records
abbrev pub Comes : RoomBook → Entries → Type 0
Comes b h = HasCome b.room b.keys.items h

-- its records read back as its changes
abbrev pub Reads : ℕ → RoomBook → Entries → Type 0
Reads room b h = ReadsBack room h

module _ (room : ℕ) (book now : RoomBook) (same_room : now.room ≡ book.room) (same_book : now.book.room ≡ book.book.room) (stays : (n : ℕ) (h : Entries) → StandsFor any_rules book.book h → HasStayed n h now.book) where
  stands_on : (h : Entries) (stands : Stands book h) → Stands now (stays room h stands.stands).after
  stands_on h stands = record {
    few = subst (λ (n : ℕ). n ≤ 63) (sym same_room) stands.few;
    same = same_book ∙ stands.same ∙ sym same_room;
    stands = (stays room h stands.stands).stands;
  }

  same_records : (h : Entries) (stands : Stands book h) → room_records room h ≡ room_records room (stays room h stands.stands).after
  same_records h stands = ap texts (sym (stays room h stands.stands).same)

  -- so do the changes that they read back as
  same_read : (h : Entries) (stands : Stands book h) → book.room ≡ room → Comes book h → ReadsBack room (stays room h stands.stands).after
  same_read h stands is came =
      let same = (stays room h stands.stands).same in
      let told : ReadsBack room h = subst (λ (n : ℕ). ReadsBack n h) is came.told in
      ap (λ (cs : List (Change GameKind)). changes_read (texts cs)) same ∙ told ∙ ap (λ (cs : List (Change GameKind)). Some cs) (sym same)

  module _ {D : Type 0} (is_told : D → Type 0) (seen : D → List ℕ) (may_leave : D → List ℕ → Type 0) (disk after : D) (end : ℕ) (broken : Option ℕ) (is : book.room ≡ room) where
    abbrev Before : Entries → Type 0
    Before h = IsOpened Stands Comes (room_records room) (may_follow room) is_told seen may_leave disk book after end broken h

    abbrev Now : Entries → Type 0
    Now h = IsOpened Stands (Reads room) (room_records room) (may_follow room) is_told seen may_leave disk now after end broken h

    opened_at : (h : Entries) (stands : Stands book h) → Before h → Now (stays room h stands.stands).after
    opened_at h stands o =
        let records = same_records h stands in
        record {
          whole = o.whole;
          came = same_read h stands is o.came;
          keeping = record { stands = stands_on h stands; settled = subst (λ (rs : List (List ℕ)). IsSettled is_told seen may_leave after end rs) records o.keeping.settled };
          had = subst (λ (rs : List (List ℕ)). HasRecords (seen disk) rs) records o.had;
          only = λ others has. o.only others has ∙ records;
          follow = subst (λ (rs : List (List ℕ)). AllFollow (may_follow room) [] rs) records o.follow;
        }

    pub opened_on : ((h : Entries) × Before h) → ((h : Entries) × Now h)
    opened_on o = let stands = o.1.keeping.stands in ((stays room o.0 stands.stands).after, opened_at o.0 stands o.1)

    -- it stands for a history, and was opened by the very same where its disk is known
    pub stands_open : ((h : Entries) × StandsOpen Stands Comes (room_records room) (may_follow room) book end broken h × (is_told disk → Before h))
        → ((h : Entries) × StandsOpen Stands (Reads room) (room_records room) (may_follow room) now end broken h × (is_told disk → Now h))
    stands_open o =
        let stands = o.1.stands in
        let records = same_records o.0 stands in (
          (stays room o.0 stands.stands).after,
          record {
            whole = o.1.whole;
            stands = stands_on o.0 stands;
            came = same_read o.0 stands is o.1.came;
            place = o.1.place ∙ ap (λ (rs : List (List ℕ)). length (open_records rs)) records;
            follow = subst (λ (rs : List (List ℕ)). AllFollow (may_follow room) [] rs) records o.1.follow;
          },
          λ told. opened_at o.0 stands (o.2 told),
        )
