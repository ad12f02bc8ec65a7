-- A file that begins anew.
use Rattle.std.proofs.Common.{◌≡◌, ◌⊎◌, ◌≤◌, ◌+◌, inl, inr, refl, ℕ, true, List, length, Option, Some, None, Result, Ok, Err, ap, sym, subst, arith}
use Rattle.std.specs.Prelude.{IfOk, IfSome}
use Rattle.any_game.specs.AnyRules.{any_rules}
use Rattle.board_links.specs.Faults.{HasRisen}
use Rattle.kept_room.specs.Anew.{IsCleared}
use Rattle.kept_room.specs.Journal.{Calls}
use Rattle.kept_room.specs.Opened.{IsOpenedRoom}
use Rattle.kept_room.specs.declared.room.KeptRoom.{KeptRoom}
use Rattle.kept_serve.specs.Anew.{Begins, IsAnew}
use Rattle.kept_serve.specs.Opened.{IsOpened}
use Rattle.kept_serve.specs.declared.opened_room.OpenedRoom.{OpenedRoom}
use Rattle.object_journal.specs.Keeping.{HasEither}
use Rattle.object_journal.specs.Opening.{IsRefused}
use Rattle.object_journal.specs.declared.replaying.OpenNo.{OpenNo}
use Rattle.object_journal.specs.declared.replaying.OpenNo.TheVariants as open_no
use Rattle.record_file.proofs.Composing.{weaker}
use Rattle.record_file.proofs.Moments.{goes_on}
use Rattle.record_file.proofs.One.{one}
use Rattle.record_file.specs.Damage.{IsDamaged}
use Rattle.record_file.specs.Ready.{longest}
use Rattle.record_file.specs.Records.{EndsAfter, HasRecords, IsSettled, open_records}
use Rattle.room_disk.specs.Disk.{Elapses, LeavesOnly, LeavesOr, Only}
use Rattle.room_history.specs.Room.{serials, standing}
use Rattle.room_journal.specs.Kept.{may_follow, room_records}
use Rattle.kept_serve.proofs.Sound.{no_shorter, undamaged}

-- ---- answers

pub some_weaker : {X : Type 0} (o : Option X) (P Q : X → Type 0) → ((x : X) → P x → Q x) → IfSome o P → IfSome o Q
some_weaker None P Q f p = tt
some_weaker (Some x) P Q f p = f x p

pub ok_both : {X E : Type 0} (r : Result X E) (P Q : X → Type 0) → IfOk r P → IfOk r Q → IfOk r (λ x. P x × Q x)
ok_both (Ok x) P Q p q = (p, q)
ok_both (Err e) P Q p q = tt

-- ---- a file that is replaced by one with other records

-- it has just the records of its bytes
just : (file bytes : List ℕ) (records : List (List ℕ)) → file ≡ bytes → length bytes ≤ longest → EndsAfter bytes records → HasRecords file records × ((others : List (List ℕ)) → HasRecords file others → others ≡ records)
just file bytes records same few ends =
    let long = ap length same in
    let here : EndsAfter file records = subst (λ (f : List ℕ). EndsAfter f records) (sym same) ends in
    (inr here, λ others has. one file others records (omega (arith, long, few)) has (inr here))

half_as_long : (file old bytes : List ℕ) (records : List (List ℕ)) (end : ℕ) → file ≡ bytes → length bytes + length bytes ≤ end → end ≡ length (open_records records) → HasRecords old records → length file + length file ≤ length old
half_as_long file old bytes records end same half place has = omega (arith, ap length same, half, place, no_shorter old records has)

module _ {D : Type 0} (is_told : D → Type 0) (seen : D → List ℕ) (may_leave : D → List ℕ → Type 0) (moment : D → ℕ) (left_since : D → ℕ → List ℕ → Type 0) where
  module _ (before after : List (List ℕ)) (mid : D) (end : ℕ) (bytes : List ℕ) (s : IsSettled is_told seen may_leave mid end before) (ends : EndsAfter bytes after) where
    left_either : (c : List ℕ) → may_leave mid c ⊎ (c ≡ bytes) → HasEither before after c
    left_either c (inl left) = inl (subst (λ (f : List ℕ). HasRecords f before) (sym (s.durable c left)) (inr s.stands))
    left_either c (inr is) = inr (subst (λ (f : List ℕ). HasRecords f after) (sym is) (inr ends))

    either_left : (disk start : D) → LeavesOnly moment left_since disk mid (λ c. HasRecords c before) → LeavesOr bytes (may_leave mid) (may_leave start)
        → Elapses (moment mid) (moment start) (left_since mid) (left_since start) (may_leave start) → LeavesOnly moment left_since disk start (HasEither before after)
    either_left disk start crash leaves time =
        goes_on moment left_since disk mid start (HasEither before after) (may_leave start)
        (weaker moment left_since disk mid (λ c. HasRecords c before) (HasEither before after) (λ c has. inl has) crash) time (λ c left. left_either c (leaves c left))

-- ---- the file of a room

-- a file that was begun anew is refused only for what refuses the file as it was
refused_anew : {D : Type 0} (is_told : D → Type 0) (seen : D → List ℕ) (faults : D → ℕ) (room : ℕ) (disk start after : D) (made : ℕ) (bytes : List ℕ) (new : Calls) → IsCleared room made bytes new → (is_told disk → is_told start × (seen start ≡ bytes))
    → faults disk ≤ faults start → (why : OpenNo) → IsRefused (may_follow room) is_told seen faults start after why → IsRefused (may_follow room) is_told seen faults disk after why
refused_anew is_told seen faults room disk start after made bytes new cleared begun le open_no.DiskFault refusal = omega (arith, le, refusal)
refused_anew is_told seen faults room disk start after made bytes new cleared begun le open_no.Long refusal = λ told.
    let b = begun told in
    absurd (omega (arith, refusal b.0, ap length b.1, cleared.few))
refused_anew is_told seen faults room disk start after made bytes new cleared begun le (open_no.Damaged place) refusal = λ told.
    let b = begun told in
    absurd (undamaged (may_follow room) bytes (room_records room new) place cleared.follow cleared.ends cleared.few (subst (λ (f : List ℕ). IsDamaged (may_follow room) f place) b.1 (refusal b.0).1))
refused_anew is_told seen faults room disk start after made bytes new cleared begun le open_no.NoMemory refusal = tt

module _ {D : Type 0} (is_told : D → Type 0) (seen : D → List ℕ) (may_leave : D → List ℕ → Type 0) (moment : D → ℕ) (left_since : D → ℕ → List ℕ → Type 0) (faults : D → ℕ) (room : ℕ) where
  abbrev Opened : D → Calls → KeptRoom D → Type 0
  Opened disk first r = IsOpenedRoom is_told seen may_leave moment left_since faults room disk first true r

  settled : (disk : D) (first : Calls) (r : KeptRoom D) → Opened disk first r → IsSettled is_told seen may_leave r.file.disk r.file.end (room_records room first)
  settled disk first r o = subst (λ (n : ℕ). IsSettled is_told seen may_leave r.file.disk r.file.end (room_records n first)) o.numbered (o.journal.keeps refl).settled

  still_told : (disk : D) (first : Calls) (r : KeptRoom D) → Opened disk first r → is_told r.file.disk
  still_told disk first r o = (settled disk first r o).told

  -- a room's file was begun anew
  is_anew : (disk : D) (old : Calls) (r : KeptRoom D) (start : D) (new : Calls) (bytes : List ℕ) → Opened disk old r → IsCleared room (serials any_rules room old) bytes new → standing any_rules room old ≡ None
      → length bytes + length bytes ≤ r.file.end → is_told start → (seen start ≡ bytes) × Only bytes (may_leave start) → LeavesOr bytes (may_leave r.file.disk) (may_leave start)
      → Elapses (moment r.file.disk) (moment start) (left_since r.file.disk) (left_since start) (may_leave start) → IsAnew is_told seen may_leave moment left_since faults room disk start
  is_anew disk old r start new bytes o cleared none half told replaced leaves time =
      let s = settled disk old r o in
      let before = room_records room old in
      let after = room_records room new in
      record {
        told = told;
        old = old;
        new = new;
        had = (o.had refl, o.only refl);
        has = just (seen start) bytes after replaced.0 cleared.few cleared.ends;
        durable = subst (λ (f : List ℕ). Only f (may_leave start)) (sym replaced.0) replaced.1;
        half = half_as_long (seen start) (seen disk) bytes before r.file.end replaced.0 half s.place (o.had refl);
        as_many = cleared.made_are;
        none_stood = none;
        none_stands = cleared.none_stands;
        crash = λ only. either_left is_told seen may_leave moment left_since before after r.file.disk r.file.end bytes s cleared.ends disk start (o.journal.crash refl only) leaves time;
      }

  -- a disk's file was replaced by these bytes
  pub record WasReplaced (mid start : D) (bytes : List ℕ) : Type 0 where
    pub told : is_told mid → is_told start
    pub replaced : is_told mid → (seen start ≡ bytes) × Only bytes (may_leave start)
    pub leaves : is_told mid → LeavesOr bytes (may_leave mid) (may_leave start)
    pub time : is_told mid → Elapses (moment mid) (moment start) (left_since mid) (left_since start) (may_leave start)
    pub quiet : faults start ≡ faults mid

  -- that of a room which was opened
  module _ (r : OpenedRoom D) (passes : ℕ) (o : IsOpened is_told seen may_leave moment left_since faults passes room r) where
    told_mid : is_told r.start.value → is_told r.room.file.disk
    told_mid told = still_told r.start.value o.first r.room (o.told told)

    module _ (start : D) (bytes : List ℕ) (w : WasReplaced r.room.file.disk start bytes) where
      higher : faults r.start.value ≤ faults start
      higher = omega (arith, w.quiet, o.opened.journal.never_falls)

      pub begins_anew : standing any_rules room o.first ≡ None → ((new : Calls) × IsCleared room (serials any_rules room o.first) bytes new) → length bytes + length bytes ≤ r.room.file.end
          → Begins is_told seen may_leave moment left_since faults room r.start.value start
      begins_anew none (new, cleared) half = inr (
        higher,
        λ told.
            let mid = told_mid told in
            is_anew r.start.value o.first r.room start new bytes (o.told told) cleared none half (w.told mid) (w.replaced mid) (w.leaves mid) (w.time mid),
      )

      pub refused_before : (after : D) (why : OpenNo) → ((new : Calls) × IsCleared room (serials any_rules room o.first) bytes new) → IsRefused (may_follow room) is_told seen faults start after why
          → IsRefused (may_follow room) is_told seen faults r.start.value after why
      refused_before after why (new, cleared) refusal =
          refused_anew is_told seen faults room r.start.value start after (serials any_rules room o.first) bytes new cleared (λ told. let mid = told_mid told in (w.told mid, (w.replaced mid).0)) higher why refusal

    pub refused_first : (mid after : D) → mid ≡ r.room.file.disk → HasRisen (faults mid) (faults after) → HasRisen (faults r.start.value) (faults after)
    refused_first mid after same rose = omega (arith, ap faults same, rose, o.opened.journal.never_falls)
