-- What calls make of a room's journal, one after another.
use Rattle.std.proofs.Common.{◌≡◌, ◌≤◌, inl, inr, ℕ, Bool, true, false, List, [], ◌∷◌, ◌++◌, Option, Some, None, option_map, IsSome, refl, sym, ap, ◌∙◌, subst, arith, append-nil, append_assoc}
use Rattle.any_game.specs.AnyRules.{any_rules}
use Rattle.any_game.specs.GameKind.{GameKind}
use Rattle.any_game.specs.declared.any_g.AnyG.{AnyG}
use Rattle.match_master.specs.Held.{Held, StandsFor, running_of}
use Rattle.object_journal.specs.Keeping.{HasEither, IsKeeping, IsPast}
use Rattle.object_journal.specs.Stopping.{HasCause}
use Rattle.object_journal.specs.declared.performing.Stop.{Stop}
use Rattle.object_journal.specs.declared.performing.Stop.TheVariants as stop
use Rattle.record_file.specs.Records.{EndsAfter, HasRecords, IsSettled}
use Rattle.record_file.specs.declared.append.RecordFile.{RecordFile}
use Rattle.record_file.proofs.Composing.{and_then, weaker}
use Rattle.record_file.proofs.Moments.{started}
use Rattle.room_changes.specs.ChangesOf.{changes_of}
use Rattle.room_disk.specs.Disk.{LeavesOnly}
use Rattle.room_history.specs.Others.{KeepsAll}
use Rattle.room_history.specs.Room.{reply, room_of}
use Rattle.room_history.specs.declared.call.RoomCall.{RoomCall}
use Rattle.room_history.specs.declared.reply.RoomReply.TheVariants as answer
use Rattle.room_history.proofs.Others.{want_keeps_all}
use Rattle.room_journal.specs.Kept.{room_payload, room_records, texts}
use Rattle.room_journal.specs.declared.room_book.RoomBook.{RoomBook}
use Rattle.room_object.specs.Entry.{Entry, entry}
use Rattle.kept_room.specs.Journal.{AllFit, Calls, FillsFile, Goes, HasPart, IsJournal, IsOver, Keeps, Since, StopRaises, stands_in}
use Rattle.kept_room.specs.declared.room.KeptRoom.{KeptRoom}

-- ---- first parts of the records of calls

module _ (records : Calls → List (List ℕ)) (first : Calls) where
  whole_part : (made : Calls) (file : List ℕ) → HasRecords file (records (made ++ first)) → HasPart records first made file
  whole_part [] file has = has
  whole_part (e ∷ made) file has = inl (inl has)

  pub more_part : (made more : Calls) (file : List ℕ) → HasPart records first made file → HasPart records first (more ++ made) file
  more_part made [] file part = part
  more_part made (e ∷ more) file part = inr (more_part made more file part)

  pub over_part : (made more : Calls) (file : List ℕ) → HasPart records (made ++ first) more file → HasPart records first (more ++ made) file
  over_part made [] file has = whole_part made file has
  over_part made (e ∷ more) file (inl has) =
      inl (subst (λ (l : Calls). HasEither (records (e ∷ l)) (records (entry e.pass e.call false ∷ l)) file) (sym (append_assoc more made first)) has)
  over_part made (e ∷ more) file (inr part) = inr (over_part made more file part)

  -- what one call may leave
  one_part : (pass : ℕ) (call : RoomCall GameKind) (starved : Bool) (file : List ℕ) → HasEither (records first) (records (entry pass call false ∷ first)) file
      → HasPart records first (entry pass call starved ∷ []) file
  one_part pass call starved file (inl before) = inr before
  one_part pass call starved file (inr after) = inl (inr after)

-- ---- whether records fit

module _ (room : ℕ) (first made : Calls) where
  all_fit : (more : Calls) → AllFit room (made ++ first) more → AllFit room first made → AllFit room first (more ++ made)
  all_fit [] after before = before
  all_fit (e ∷ more) (fits, after) before =
      (λ fed over. fits fed (subst (λ (l : Calls). IsOver room l e) (append_assoc more made first) over), all_fit more after before)

  fills_after : (more : Calls) → AllFit room first made → FillsFile room (made ++ first) more → FillsFile room first (more ++ made)
  fills_after [] before f = absurd f
  fills_after (e ∷ more) before (inl (over, after)) =
      inl (subst (λ (l : Calls). IsOver room l e) (sym (append_assoc more made first)) over, all_fit more after before)
  fills_after (e ∷ more) before (inr f) = inr (fills_after more before f)

  fills_before : (more : Calls) → FillsFile room first made → FillsFile room first (more ++ made)
  fills_before [] f = f
  fills_before (e ∷ more) f = inr (fills_before more f)

-- ---- why a room stops

cause_raises : (why : Option Stop) (end old new : ℕ) → HasCause why end old new → StopRaises why old new
cause_raises None end old new c = c
cause_raises (Some stop.NoMemory) end old new c = c
cause_raises (Some (stop.Full place)) end old new c = c.1
cause_raises (Some (stop.NotKept place)) end old new c = c.1

pub raises_from : (why : Option Stop) (old mid new : ℕ) → old ≤ mid → StopRaises why mid new → StopRaises why old new
raises_from None old mid new le r = omega (arith, le, r)
raises_from (Some stop.NoMemory) old mid new le r = omega (arith, le, r)
raises_from (Some (stop.Full place)) old mid new le r = omega (arith, le, r)
raises_from (Some (stop.NotKept place)) old mid new le r = omega (arith, le, r)

pub stays_at : (n : ℕ) → n ≤ n
stays_at n = omega arith

stays_by : (m n : ℕ) → n ≡ m → m ≤ n
stays_by m n e = omega (arith, e)

pub some_none : (why : Option Stop) → IsSome why → why ≡ None → ⊥
some_none None live e = no_true live
  where
    no_true : false ≡ true → ⊥
    no_true f = cc
some_none (Some why) live e = is_none e
  where
    is_none : Some why ≡ None → ⊥
    is_none f = cc

pub some_is_none : (why : Stop) → Some why ≡ None → ⊥
some_is_none why e = cc

memory_is_full : (place : ℕ) → Some stop.NoMemory ≡ Some (stop.Full place) → ⊥
memory_is_full place e = cc

-- ---- want of memory

pub true_is_false : true ≡ false → ⊥
true_is_false e = cc

-- a book stands for its calls with one more for which there was no memory
wanted : (held : Held GameKind AnyG) (h : Calls) → StandsFor any_rules held h → (pass : ℕ) (call : RoomCall GameKind) → StandsFor any_rules held (entry pass call true ∷ h)
wanted held h s pass call =
    let k : KeepsAll (room_of any_rules held.room h) (room_of any_rules held.room (entry pass call true ∷ h)) = want_keeps_all any_rules held.room h pass call in
    record {
      serials_held = s.serials_held ∙ sym k.matches.serials;
      match_held = s.match_held ∙ ap (option_map (running_of any_rules)) (sym k.matches.standing);
      sessions_held = λ q. s.sessions_held q ∙ sym (k.attachments q);
    }

stands_wanted : (b : RoomBook) (h : Calls) (pass : ℕ) (call : RoomCall GameKind) → stands_in b h → stands_in b (entry pass call true ∷ h)
stands_wanted b h pass call s = record { few = s.few; same = s.same; stands = wanted b.book h s.stands pass call }

-- its records stay
same_records : (room : ℕ) (h : Calls) (pass : ℕ) (call : RoomCall GameKind) → room_records room (entry pass call true ∷ h) ≡ room_records room h
unfolding reply
same_records room h pass call = ap texts (append-nil (changes_of any_rules room h))

-- its reply
pub starved_reply : (room : ℕ) (h : Calls) (pass : ℕ) (call : RoomCall GameKind) → answer.NoMemory ≡ reply any_rules room h (entry pass call true)
unfolding reply
starved_reply room h pass call = refl

-- ---- one call

module _ {D : Type 0} (is_told : D → Type 0) (seen : D → List ℕ) (may_leave : D → List ℕ → Type 0) (moment : D → ℕ) (left_since : D → ℕ → List ℕ → Type 0) (faults : D → ℕ) where
  abbrev Was : KeptRoom D → KeptRoom D → Calls → Type 0
  Was old new more = Since is_told seen may_leave moment left_since faults old new more

  abbrev Holds : KeptRoom D → Calls → Type 0
  Holds r h = Keeps is_told seen may_leave moment left_since faults r h

  abbrev Went : Option Stop → KeptRoom D → KeptRoom D → Type 0
  Went why old new = Goes is_told seen may_leave moment left_since faults why old new

  abbrev Leaves : D → D → (List ℕ → Type 0) → Type 0
  Leaves old new P = LeavesOnly moment left_since old new P

  idle : (r : KeptRoom D) (why : Option Stop) → r.stopped ≡ why → Went why r r
  idle r None e = subst (λ (s : Option Stop). StopRaises s (faults r.file.disk) (faults r.file.disk)) (sym e) (stays_at (faults r.file.disk))
  idle r (Some why) e = (e, refl)

  -- a call that was made in memory alone, where the room has stopped
  pub since_stopped : (old new : KeptRoom D) (e : Entry (RoomCall GameKind)) → IsSome old.stopped → new.stopped ≡ old.stopped → new.file ≡ old.file
      → new.object.room ≡ old.object.room → ((h : Calls) → stands_in old.object h → stands_in new.object (e ∷ h)) → Was old new (e ∷ [])
  since_stopped old new e stopped same file room stands = record {
    same_room = room;
    stands = stands;
    whole = λ n. absurd (some_none old.stopped stopped (sym same ∙ n));
    kept = λ n h k. absurd (some_none old.stopped stopped (sym same ∙ n));
    crash = λ h n k. absurd (some_none old.stopped stopped n);
    goes = by old.stopped refl;
    fits = λ h n k. absurd (some_none old.stopped stopped (sym same ∙ n));
    full = λ h n k place f. absurd (some_none old.stopped stopped n);
  }
    where
      by : (why : Option Stop) → old.stopped ≡ why → Went why old new
      by None n = absurd (some_none old.stopped stopped n)
      by (Some why) n = (same ∙ n, file)

  -- a call whose record was kept, or at which the room stopped
  pub since_performed : (old new : KeptRoom D) (pass : ℕ) (call : RoomCall GameKind) (starved : Bool) → old.stopped ≡ None → new.object.room ≡ old.object.room
      → ((h : Calls) → stands_in old.object h → stands_in new.object (entry pass call starved ∷ h))
      → (new.stopped ≡ None → (h : Calls) → Holds old h
      → IsKeeping stands_in (room_records old.object.room) is_told seen may_leave new.object new.file.disk new.file.end (entry pass call starved ∷ h))
      → HasCause new.stopped old.file.end (faults old.file.disk) (faults new.file.disk)
      → ((h : Calls) (place : ℕ) → stands_in old.object h → new.stopped ≡ Some (stop.Full place) → IsPast old.file.end (room_payload old.object.room h pass call))
      → ((h : Calls) → stands_in old.object h → new.stopped ≡ None → IsPast old.file.end (room_payload old.object.room h pass call) → ⊥)
      → ((h : Calls) → Holds old h → Leaves old.file.disk new.file.disk (HasEither (room_records old.object.room h) (room_records old.object.room (entry pass call false ∷ h))))
      → Was old new (entry pass call starved ∷ [])
  since_performed old new pass call starved none room stands kept cause full fits crash = record {
    same_room = room;
    stands = stands;
    whole = λ n. none;
    kept = λ n h k.
        subst (λ (r : ℕ). IsKeeping stands_in (room_records r) is_told seen may_leave new.object new.file.disk new.file.end (entry pass call starved ∷ h)) (sym room) (kept n h k);
    crash = λ h n k.
        let records : Calls → List (List ℕ) = room_records old.object.room in
        weaker moment left_since old.file.disk new.file.disk (HasEither (records h) (records (entry pass call false ∷ h))) (HasPart records h (entry pass call starved ∷ []))
        (one_part records h pass call starved) (crash h k);
    goes = subst (λ (why : Option Stop). Went why old new) (sym none) (cause_raises new.stopped old.file.end (faults old.file.disk) (faults new.file.disk) cause);
    fits = λ h n k. (λ fed over. fits h k.stands n (subst (λ (end : ℕ). IsPast end (room_payload old.object.room h pass call)) (sym k.settled.place) over), tt);
    full = λ h n k place f. inl (subst (λ (end : ℕ). IsPast end (room_payload old.object.room h pass call)) k.settled.place (full h place k.stands f), tt);
  }

  module _ (only_now : (disk : D) (c : List ℕ) → is_told disk → left_since disk (moment disk) c → may_leave disk c) where
    -- what a crash leaves where nothing is done
    pub at_rest : (r : KeptRoom D) (h : Calls) → Holds r h → Leaves r.file.disk r.file.disk (λ c. HasRecords c (room_records r.object.room h))
    at_rest r h k =
        let disk : D = r.file.disk in
        started moment left_since disk (λ c. HasRecords c (room_records r.object.room h)) (may_leave disk) (λ c left. only_now disk c k.settled.told left)
        (λ c leaves. inr (subst (λ (f : List ℕ). EndsAfter f (room_records r.object.room h)) (sym (k.settled.durable c leaves)) k.settled.stands))

    -- no call
    pub since_none : (r : KeptRoom D) → Was r r []
    since_none r = record {
      same_room = refl;
      stands = λ h s. s;
      whole = λ n. n;
      kept = λ n h k. k;
      crash = λ h n k. at_rest r h k;
      goes = idle r r.stopped refl;
      fits = λ h n k. tt;
      full = λ h n k place f. absurd (some_is_none (stop.Full place) (sym f ∙ n));
    }

    -- a call for which there was no memory, and which changed nothing
    pub since_wanted : (r : KeptRoom D) (pass : ℕ) (call : RoomCall GameKind) → Was r r (entry pass call true ∷ [])
    since_wanted r pass call = record {
      same_room = refl;
      stands = λ h s. stands_wanted r.object h pass call s;
      whole = λ n. n;
      kept = λ n h k. record {
        stands = stands_wanted r.object h pass call k.stands;
        settled = subst (λ (rs : List (List ℕ)). IsSettled is_told seen may_leave r.file.disk r.file.end rs) (sym (same_records r.object.room h pass call)) k.settled;
      };
      crash = λ h n k.
          let records : Calls → List (List ℕ) = room_records r.object.room in
          weaker moment left_since r.file.disk r.file.disk (λ c. HasRecords c (records h)) (HasPart records h (entry pass call true ∷ [])) (λ c has. inr has) (at_rest r h k);
      goes = idle r r.stopped refl;
      fits = λ h n k. (λ fed. absurd (true_is_false fed), tt);
      full = λ h n k place f. absurd (some_is_none (stop.Full place) (sym f ∙ n));
    }

    -- a call that was made in memory alone, since there was no memory for its record
    pub since_unkept : (old new : KeptRoom D) (e : Entry (RoomCall GameKind)) → old.stopped ≡ None → new.stopped ≡ Some stop.NoMemory → new.file ≡ old.file
        → new.object.room ≡ old.object.room → ((h : Calls) → stands_in old.object h → stands_in new.object (e ∷ h)) → Was old new (e ∷ [])
    since_unkept old new e none stopped file room stands = record {
      same_room = room;
      stands = stands;
      whole = λ n. none;
      kept = λ n h k. absurd (some_is_none stop.NoMemory (sym stopped ∙ n));
      crash = λ h n k.
          let records : Calls → List (List ℕ) = room_records old.object.room in
          subst (λ (d : D). Leaves old.file.disk d (HasPart records h (e ∷ []))) (ap (λ (f : RecordFile D). f.disk) (sym file))
          (weaker moment left_since old.file.disk old.file.disk (λ c. HasRecords c (records h)) (HasPart records h (e ∷ [])) (λ c has. inr has) (at_rest old h k));
      goes = subst (λ (why : Option Stop). Went why old new) (sym none)
          (subst (λ (why : Option Stop). StopRaises why (faults old.file.disk) (faults new.file.disk)) (sym stopped)
          (stays_by (faults old.file.disk) (faults new.file.disk) (ap (λ (f : RecordFile D). faults f.disk) file)));
      fits = λ h n k. absurd (some_is_none stop.NoMemory (sym stopped ∙ n));
      full = λ h n k place f. absurd (memory_is_full place (sym stopped ∙ f));
    }

  -- ---- calls after calls

  module _ (old mid new : KeptRoom D) (made more : Calls) (one : Was old mid made) (two : Was mid new more) where
    first_leaves : (h : Calls) → old.stopped ≡ None → Holds old h → Leaves old.file.disk mid.file.disk (HasPart (room_records old.object.room) h (more ++ made))
    first_leaves h n k =
        weaker moment left_since old.file.disk mid.file.disk (HasPart (room_records old.object.room) h made) (HasPart (room_records old.object.room) h (more ++ made))
        (more_part (room_records old.object.room) h made more) (one.crash h n k)

    crash_by : (why : Option Stop) → mid.stopped ≡ why → (h : Calls) → old.stopped ≡ None → Holds old h
        → Leaves old.file.disk new.file.disk (HasPart (room_records old.object.room) h (more ++ made))
    crash_by None e h n k =
        and_then moment left_since old.file.disk mid.file.disk new.file.disk (HasPart (room_records old.object.room) h (more ++ made)) (first_leaves h n k)
        (weaker moment left_since mid.file.disk new.file.disk (HasPart (room_records old.object.room) (made ++ h) more) (HasPart (room_records old.object.room) h (more ++ made))
        (over_part (room_records old.object.room) h made more)
        (subst (λ (r : ℕ). Leaves mid.file.disk new.file.disk (HasPart (room_records r) (made ++ h) more)) one.same_room (two.crash (made ++ h) e (one.kept e h k))))
    crash_by (Some why) e h n k =
        let same : (new.stopped ≡ Some why) × (new.file ≡ mid.file) = subst (λ (o : Option Stop). Went o mid new) e two.goes in
        subst (λ (d : D). Leaves old.file.disk d (HasPart (room_records old.object.room) h (more ++ made))) (ap (λ (f : RecordFile D). f.disk) (sym same.1)) (first_leaves h n k)

    raises_by : (why : Option Stop) → mid.stopped ≡ why → StopRaises mid.stopped (faults old.file.disk) (faults mid.file.disk)
        → StopRaises new.stopped (faults old.file.disk) (faults new.file.disk)
    raises_by None e r =
        raises_from new.stopped (faults old.file.disk) (faults mid.file.disk) (faults new.file.disk)
        (subst (λ (o : Option Stop). StopRaises o (faults old.file.disk) (faults mid.file.disk)) e r) (subst (λ (o : Option Stop). Went o mid new) e two.goes)
    raises_by (Some why) e r =
        let same : (new.stopped ≡ Some why) × (new.file ≡ mid.file) = subst (λ (o : Option Stop). Went o mid new) e two.goes in
        subst (λ (n : ℕ). StopRaises new.stopped (faults old.file.disk) n) (ap (λ (f : RecordFile D). faults f.disk) (sym same.1))
        (subst (λ (o : Option Stop). StopRaises o (faults old.file.disk) (faults mid.file.disk)) (e ∙ sym same.0) r)

    goes_by : (why : Option Stop) → old.stopped ≡ why → Went why old mid → Went why old new
    goes_by None e r = raises_by mid.stopped refl r
    goes_by (Some why) e r =
        let same : (new.stopped ≡ Some why) × (new.file ≡ mid.file) = subst (λ (o : Option Stop). Went o mid new) r.0 two.goes in
        (same.0, same.1 ∙ r.1)

    fits_by : (h : Calls) → new.stopped ≡ None → Holds old h → AllFit old.object.room h (more ++ made)
    fits_by h n k =
        let whole : mid.stopped ≡ None = two.whole n in
        all_fit old.object.room h made more
        (subst (λ (r : ℕ). AllFit r (made ++ h) more) one.same_room (two.fits (made ++ h) n (one.kept whole h k)))
        (one.fits h whole k)

    full_by : (why : Option Stop) → mid.stopped ≡ why → (h : Calls) → old.stopped ≡ None → Holds old h → (place : ℕ) → new.stopped ≡ Some (stop.Full place)
        → FillsFile old.object.room h (more ++ made)
    full_by None e h n k place f =
        fills_after old.object.room h made more (one.fits h e k)
        (subst (λ (r : ℕ). FillsFile r (made ++ h) more) one.same_room (two.full (made ++ h) e (one.kept e h k) place f))
    full_by (Some why) e h n k place f =
        let same : (new.stopped ≡ Some why) × (new.file ≡ mid.file) = subst (λ (o : Option Stop). Went o mid new) e two.goes in
        fills_before old.object.room h made more (one.full h n k place (e ∙ sym same.0 ∙ f))

    pub since_more : Was old new (more ++ made)
    since_more = record {
      same_room = two.same_room ∙ one.same_room;
      stands = λ h s. subst (λ (l : Calls). stands_in new.object l) (sym (append_assoc more made h)) (two.stands (made ++ h) (one.stands h s));
      whole = λ n. one.whole (two.whole n);
      kept = λ n h k. subst (λ (l : Calls). Holds new l) (sym (append_assoc more made h)) (two.kept n (made ++ h) (one.kept (two.whole n) h k));
      crash = λ h n k. crash_by mid.stopped refl h n k;
      goes = goes_by old.stopped refl one.goes;
      fits = fits_by;
      full = λ h n k place f. full_by mid.stopped refl h n k place f;
    }

  -- ---- since the file was opened

  module _ (room : ℕ) (start : D) (first made : Calls) (known : Bool) (old new : KeptRoom D) (more : Calls) (numbered : old.object.room ≡ room) (was : old.stopped ≡ None) (is : new.stopped ≡ None) where
    pub journal_goes : IsJournal is_told seen may_leave moment left_since faults room start first made known old → Was old new more
        → IsJournal is_told seen may_leave moment left_since faults room start first (more ++ made) known new
    journal_goes j since = record {
      stands = subst (λ (l : Calls). stands_in new.object l) (sym (append_assoc more made first)) (since.stands (made ++ first) j.stands);
      keeps = λ told. subst (λ (l : Calls). Holds new l) (sym (append_assoc more made first)) (since.kept is (made ++ first) (j.keeps told));
      crash = λ told only.
          and_then moment left_since start old.file.disk new.file.disk (HasPart (room_records room) first (more ++ made))
          (weaker moment left_since start old.file.disk (HasPart (room_records room) first made) (HasPart (room_records room) first (more ++ made)) (more_part (room_records room) first made more) (j.crash told only))
          (weaker moment left_since old.file.disk new.file.disk (HasPart (room_records room) (made ++ first) more) (HasPart (room_records room) first (more ++ made)) (over_part (room_records room) first made more)
          (subst (λ (r : ℕ). Leaves old.file.disk new.file.disk (HasPart (room_records r) (made ++ first) more)) numbered (since.crash (made ++ first) was (j.keeps told))));
      fits = λ told.
          all_fit room first made more (subst (λ (r : ℕ). AllFit r (made ++ first) more) numbered (since.fits (made ++ first) is (j.keeps told))) (j.fits told);
      never_falls = higher (faults start) (faults old.file.disk) (faults new.file.disk) j.never_falls
          (subst (λ (o : Option Stop). StopRaises o (faults old.file.disk) (faults new.file.disk)) is (subst (λ (o : Option Stop). Went o old new) was since.goes));
    }
      where
        higher : (a b c : ℕ) → a ≤ b → b ≤ c → a ≤ c
        higher a b c low high = omega (arith, low, high)
