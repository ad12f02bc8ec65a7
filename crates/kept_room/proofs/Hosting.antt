-- What each call makes of a room behind a desk, and of its file.
use Rattle.std.proofs.Common.{◌≡◌, ◌≤◌, arith, inl, inr, ℕ, Bool, true, false, List, [], ◌∷◌, ◌++◌, Option, Some, None, IsSome, is_some, refl, sym, ap, ◌∙◌, subst, append_assoc}
use Rattle.any_game.specs.AnyRules.{any_rules}
use Rattle.any_game.specs.GameKind.{GameKind}
use Rattle.board_links.specs.Faults.{HasRisen}
use Rattle.object_journal.specs.declared.performing.Stop.{Stop}
use Rattle.object_journal.specs.declared.performing.Stop.TheVariants as stop
use Rattle.record_file.specs.Records.{IsSettled}
use Rattle.record_file.specs.declared.append.RecordFile.{RecordFile}
use Rattle.record_file.proofs.Composing.{and_then, weaker}
use Rattle.room_disk.specs.Disk.{LeavesOnly}
use Rattle.room_history.specs.Outbox.{Attachment}
use Rattle.room_history.specs.Presence.{is_attached}
use Rattle.room_history.specs.Room.{reply}
use Rattle.room_history.specs.declared.call.RoomCall.{RoomCall}
use Rattle.room_history.specs.declared.call.RoomCall.TheVariants.{Detach}
use Rattle.room_history.specs.declared.reply.RoomReply.{RoomReply}
use Rattle.room_history.proofs.Presence.{want_presence}
use Rattle.room_journal.specs.Kept.{room_records}
use Rattle.room_journal.specs.declared.room_book.RoomBook.{RoomBook}
use Rattle.room_object.specs.Entry.{Entry, entry}
use Rattle.kept_room.specs.Asides.{is_aside, is_detach}
use Rattle.kept_room.specs.Hosting.{HasJust, IsOnDisk, IsOpenedBy, NobodyAfter, StandsFrom, StandsHosted, StopsBy, WasOn}
use Rattle.kept_room.specs.Opened.{IsOpenedRoom}
use Rattle.kept_room.specs.Journal.{AllFit, Calls, FillsFile, Goes, HasPart, Keeps, Since, StopRaises, stands_in}
use Rattle.kept_room.specs.declared.room.KeptRoom.{KeptRoom}
use Rattle.kept_room.proofs.Asides.{is_the_detach, same_left, same_told, stays_attached}
use Rattle.kept_room.proofs.Journals.{at_rest, more_part, over_part, raises_from, some_none, true_is_false}

same_first : {A : Type 0} (x y : A) (xs ys : List A) → x ∷ xs ≡ y ∷ ys → x ≡ y
same_first x y xs ys e = cc

same_rest : {A : Type 0} (x y : A) (xs ys : List A) → x ∷ xs ≡ y ∷ ys → xs ≡ ys
same_rest x y xs ys e = cc

none_split : {A : Type 0} (later : List A) (e : A) (earlier : List A) → [] ≡ later ++ (e ∷ earlier) → ⊥
none_split [] e earlier is = cc
none_split (x ∷ later) e earlier is = cc

none_some : {A : Type 0} (x : A) → None ≡ Some x → ⊥
none_some x e = cc

-- the same passes are attached after each history that a book stands for
same_attached : (b : RoomBook) (h l : Calls) (pass : ℕ) → stands_in b h → stands_in b l → is_attached any_rules b.room h pass ≡ is_attached any_rules b.room l pass
same_attached b h l pass s t =
    subst (λ (n : ℕ). is_attached any_rules n h pass ≡ is_attached any_rules n l pass) s.same
    (ap (λ (a : Option Attachment). is_some a) (sym (s.stands.sessions_held pass) ∙ t.stands.sessions_held pass))

pub whole_not_some : (why : Option Stop) → is_some why ≡ false → why ≡ None
whole_not_some None e = refl
whole_not_some (Some why) e = absurd (true_is_false e)

-- the cause of a stop stays one as calls are refused
stays_cause : (room : ℕ) (past h : Calls) (e : Entry (RoomCall GameKind)) (start now : ℕ) (why : Stop) → StopsBy room past h start now why → StopsBy room past (e ∷ h) start now why
stays_cause room past h e start now (stop.NotKept place) c = c
stays_cause room past h e start now (stop.Full place) c = inr c
stays_cause room past h e start now stop.NoMemory c = tt

-- what may be left of a call whose change is refused is what may be left of the call
refused_part : (records : Calls → List (List ℕ)) (g : Calls) (pass : ℕ) (call : RoomCall GameKind) (starved : Bool) (file : List ℕ)
    → HasPart records g (entry pass call starved ∷ []) file → HasPart records g (entry pass call true ∷ []) file
refused_part records g pass call true file part = part
refused_part records g pass call false file (inl (inl has)) = inl (inr has)
refused_part records g pass call false file (inl (inr has)) = inl (inr has)
refused_part records g pass call false file (inr part) = inr part

module _ {D : Type 0} (is_told : D → Type 0) (seen : D → List ℕ) (may_leave : D → List ℕ → Type 0) (moment : D → ℕ) (left_since : D → ℕ → List ℕ → Type 0) (faults : D → ℕ) where
  abbrev Stands : ℕ → Calls → Option D → KeptRoom D → Calls → Type 0
  Stands room past start r h = StandsHosted is_told seen may_leave moment left_since faults room past start r h

  abbrev On : ℕ → Calls → D → KeptRoom D → Calls → Type 0
  On room past start r h = IsOnDisk is_told seen may_leave moment left_since faults room past start r h

  abbrev Was : ℕ → Calls → Calls → D → Type 0
  Was room before later disk = WasOn is_told seen may_leave moment left_since faults room before later disk

  abbrev Holds : KeptRoom D → Calls → Type 0
  Holds r h = Keeps is_told seen may_leave moment left_since faults r h

  abbrev Grew : KeptRoom D → KeptRoom D → Calls → Type 0
  Grew old new more = Since is_told seen may_leave moment left_since faults old new more

  abbrev Went : Option Stop → KeptRoom D → KeptRoom D → Type 0
  Went why old new = Goes is_told seen may_leave moment left_since faults why old new

  abbrev Leaves : D → D → (List ℕ → Type 0) → Type 0
  Leaves old new P = LeavesOnly moment left_since old new P

  -- ---- one call more

  module _ (room : ℕ) (past h : Calls) (old new : KeptRoom D) (e : Entry (RoomCall GameKind)) where
    -- what a crash may leave since some disk, by what it might leave before the call
    abbrev Grows : Type 0
    Grows = (from : D) (before later : Calls) → h ++ past ≡ later ++ before → Leaves from old.file.disk (HasPart (room_records room) before later)
        → Leaves from new.file.disk (HasPart (room_records room) before (e ∷ later))

    -- a call that leaves the file alone
    still_grows : new.file ≡ old.file → Grows
    still_grows same from before later is leaves =
        subst (λ (f : RecordFile D). Leaves from f.disk (HasPart (room_records room) before (e ∷ later))) (sym same)
        (weaker moment left_since from old.file.disk (HasPart (room_records room) before later) (HasPart (room_records room) before (e ∷ later))
        (more_part (room_records room) before later (e ∷ [])) leaves)

    -- a call that may leave this much of itself
    made_grows : Leaves old.file.disk new.file.disk (HasPart (room_records room) (h ++ past) (e ∷ [])) → Grows
    made_grows made from before later is leaves =
        let records : Calls → List (List ℕ) = room_records room in
        and_then moment left_since from old.file.disk new.file.disk (HasPart records before (e ∷ later))
        (weaker moment left_since from old.file.disk (HasPart records before later) (HasPart records before (e ∷ later)) (more_part records before later (e ∷ [])) leaves)
        (weaker moment left_since old.file.disk new.file.disk (HasPart records (later ++ before) (e ∷ [])) (HasPart records before (e ∷ later)) (over_part records before later (e ∷ []))
        (subst (λ (l : Calls). Leaves old.file.disk new.file.disk (HasPart records l (e ∷ []))) is made))

    module _ (start : D) (on : On room past start old h) (grows : Grows) (keeps : new.stopped ≡ None → Holds new ((e ∷ h) ++ past))
        (first_safe : e.starved ≡ false → is_detach e.call ≡ false → Was room ((e ∷ h) ++ past) [] new.file.disk) (rises : new.stopped ≡ None → faults start ≤ faults new.file.disk)
        (fits : new.stopped ≡ None → AllFit room past (e ∷ h)) (cause : (why : Stop) → new.stopped ≡ Some why → StopsBy room past (e ∷ h) (faults start) (faults new.file.disk) why) where
      safe_by : (later : Calls) (one : Entry (RoomCall GameKind)) (earlier : Calls) → e ∷ h ≡ later ++ (one ∷ earlier) → one.starved ≡ false → is_detach one.call ≡ false
          → Was room ((one ∷ earlier) ++ past) later new.file.disk
      safe_by [] one earlier is fed live =
          let same : e ≡ one = same_first e one h earlier is in
          subst (λ (l : Calls). Was room (l ++ past) [] new.file.disk) is
          (first_safe (ap (λ (x : Entry (RoomCall GameKind)). x.starved) same ∙ fed) (ap (λ (x : Entry (RoomCall GameKind)). is_detach x.call) same ∙ live))
      safe_by (x ∷ later) one earlier is fed live =
          let before : Calls = (one ∷ earlier) ++ past in
          let split : h ≡ later ++ (one ∷ earlier) = same_rest e x h (later ++ (one ∷ earlier)) is in
          let was : Was room before later old.file.disk = on.safe later one earlier split fed live in
          record {
            at = was.at;
            end = was.end;
            settled = was.settled;
            since = subst (λ (y : Entry (RoomCall GameKind)). Leaves was.at new.file.disk (HasPart (room_records room) before (y ∷ later))) (same_first e x h (later ++ (one ∷ earlier)) is)
                (grows was.at before later (ap (λ (l : Calls). l ++ past) split ∙ append_assoc later (one ∷ earlier) past) was.since);
          }

      on_goes : On room past start new (e ∷ h)
      on_goes = record {
        keeps = keeps;
        crash = λ only. grows start past h refl (on.crash only);
        safe = safe_by;
        never_falls = rises;
        fits = fits;
        cause = cause;
      }

  -- ---- a room that goes on

  module _ (only_now : (disk : D) (c : List ℕ) → is_told disk → left_since disk (moment disk) c → may_leave disk c)
      (past : ℕ → Calls) (start : ℕ → Option D) (old new : KeptRoom D) (e : Entry (RoomCall GameKind)) (since : Grew old new (e ∷ [])) (is_whole : new.stopped ≡ None) (h : Calls) where
    abbrev number_of : ℕ
    number_of = old.object.room

    abbrev before_it : Calls
    before_it = h ++ past number_of

    here : Holds new (e ∷ before_it) → Was number_of (e ∷ before_it) [] new.file.disk
    here k = record {
      at = new.file.disk;
      end = new.file.end;
      settled = subst (λ (n : ℕ). IsSettled is_told seen may_leave new.file.disk new.file.end (room_records n (e ∷ before_it))) since.same_room k.settled;
      since = subst (λ (n : ℕ). Leaves new.file.disk new.file.disk (HasPart (room_records n) (e ∷ before_it) [])) since.same_room
          (at_rest is_told seen may_leave moment left_since faults only_now new (e ∷ before_it) k);
    }

    goes_on : Stands number_of (past number_of) (start number_of) old h → Stands number_of (past number_of) (start number_of) new (e ∷ h)
    goes_on s = record {
      real = e ∷ s.real;
      stands = since.stands s.real s.stands;
      present = λ q. ap (λ (l : Calls). is_attached any_rules number_of (e ∷ l) q) (s.whole was);
      whole = λ n. ap (λ (l : Calls). e ∷ l) (s.whole was);
      on_disk = λ from is told.
          let on : On number_of (past number_of) from old h = s.on_disk from is told in
          let kept : Holds new (e ∷ before_it) = since.kept is_whole before_it (on.keeps was) in
          on_goes number_of (past number_of) h old new e from on (made_grows number_of (past number_of) h old new e (since.crash before_it was (on.keeps was))) (λ n. kept) (λ fed live. here kept)
          (λ n. let rose : faults old.file.disk ≤ faults new.file.disk = subst (λ (o : Option Stop). StopRaises o (faults old.file.disk) (faults new.file.disk)) n (subst (λ (o : Option Stop). Went o old new) was since.goes) in
          omega (arith, on.never_falls was, rose))
          (λ n. ((since.fits before_it is_whole (on.keeps was)).0, on.fits was)) (λ why n. absurd (none_some why (sym is_whole ∙ n)));
    }
      where
        was : old.stopped ≡ None
        was = since.whole is_whole

    pub stays_hosted : Stands number_of (past number_of) (start number_of) old h → Stands new.object.room (past new.object.room) (start new.object.room) new (e ∷ h)
    stays_hosted s = subst (λ (n : ℕ). Stands n (past n) (start n) new (e ∷ h)) (sym since.same_room) (goes_on s)

  -- ---- a room that stops at a call

  module _ (past : ℕ → Calls) (start : ℕ → Option D) (old new : KeptRoom D) (pass : ℕ) (call : RoomCall GameKind) (starved : Bool) (since : Grew old new (entry pass call starved ∷ []))
      (was : old.stopped ≡ None) (stopped : IsSome new.stopped) (change : is_aside call ≡ false) (h : Calls) where
    stops_at : Stands old.object.room (past old.object.room) (start old.object.room) old h → Stands old.object.room (past old.object.room) (start old.object.room) new (entry pass call true ∷ h)
    stops_at s = record {
      real = entry pass call starved ∷ s.real;
      stands = since.stands s.real s.stands;
      present = λ q.
          stays_attached room s.real pass call starved change q
          ∙ s.present q
          ∙ sym (stays_attached room g pass call true change q);
      whole = λ n. absurd (some_none new.stopped stopped n);
      on_disk = λ from is told.
          let on : On room (past room) from old h = s.on_disk from is told in
          let left : Leaves old.file.disk new.file.disk (HasPart (room_records room) g (entry pass call true ∷ []))
          = weaker moment left_since old.file.disk new.file.disk (HasPart (room_records room) g (entry pass call starved ∷ [])) (HasPart (room_records room) g (entry pass call true ∷ []))
          (refused_part (room_records room) g pass call starved) (since.crash g was (on.keeps was)) in
          on_goes room (past room) h old new (entry pass call true) from on (made_grows room (past room) h old new (entry pass call true) left) (λ n. absurd (some_none new.stopped stopped n))
          (λ fed live. absurd (true_is_false fed)) (λ n. absurd (some_none new.stopped stopped n)) (λ n. absurd (some_none new.stopped stopped n))
          (λ why n. by_cause why n (subst (λ (o : Option Stop). StopRaises o (faults old.file.disk) (faults new.file.disk)) n rose) on);
    }
      where
        room : ℕ
        room = old.object.room

        rose : StopRaises new.stopped (faults old.file.disk) (faults new.file.disk)
        rose = subst (λ (o : Option Stop). Went o old new) was since.goes

        g : Calls
        g = h ++ past old.object.room

        by_cause : (why : Stop) → new.stopped ≡ Some why → StopRaises (Some why) (faults old.file.disk) (faults new.file.disk) → {from : D} → On room (past room) from old h
            → StopsBy room (past room) (entry pass call true ∷ h) (faults from) (faults new.file.disk) why
        by_cause (stop.NotKept place) n r on = raises_from (Some (stop.NotKept place)) _ (faults old.file.disk) (faults new.file.disk) (on.never_falls was) r
        by_cause (stop.Full place) n r on = over (since.full g was (on.keeps was) place n)
          where
            over : FillsFile room g (entry pass call starved ∷ []) → FillsFile room (past room) (entry pass call true ∷ h)
            over (inl o) = inl (o.0, on.fits was)
            over (inr none) = absurd none
        by_cause stop.NoMemory n r on = tt

    pub stops_hosted : Stands old.object.room (past old.object.room) (start old.object.room) old h
        → Stands new.object.room (past new.object.room) (start new.object.room) new (entry pass call true ∷ h)
    stops_hosted s = subst (λ (n : ℕ). Stands n (past n) (start n) new (entry pass call true ∷ h)) (sym since.same_room) (stops_at s)

  -- ---- a room that has stopped

  -- it refuses a call
  pub refuses_hosted : (room : ℕ) (past : Calls) (start : Option D) (r : KeptRoom D) (pass : ℕ) (call : RoomCall GameKind) (h : Calls) → IsSome r.stopped → Stands room past start r h
      → Stands room past start r (entry pass call true ∷ h)
  refuses_hosted room past start r pass call h stopped s = record {
    real = s.real;
    stands = s.stands;
    present = λ q. s.present q ∙ sym (want_presence any_rules room (h ++ past) pass q call);
    whole = λ n. absurd (some_none r.stopped stopped n);
    on_disk = λ from is told.
        on_goes room past h r r (entry pass call true) from (s.on_disk from is told) (still_grows room past h r r (entry pass call true) refl) (λ n. absurd (some_none r.stopped stopped n))
        (λ fed live. absurd (true_is_false fed)) (λ n. absurd (some_none r.stopped stopped n)) (λ n. absurd (some_none r.stopped stopped n))
        (λ why n. stays_cause room past h (entry pass call true) (faults from) (faults r.file.disk) why ((s.on_disk from is told).cause why n));
  }

  -- it lets a pass go
  module _ (past : ℕ → Calls) (start : ℕ → Option D) (old new : KeptRoom D) (pass : ℕ) (since : Grew old new (entry pass Detach false ∷ [])) (stopped : IsSome old.stopped)
      (same : new.stopped ≡ old.stopped) (file : new.file ≡ old.file) (h : Calls) where
    frees : Stands old.object.room (past old.object.room) (start old.object.room) old h → Stands old.object.room (past old.object.room) (start old.object.room) new (entry pass Detach false ∷ h)
    frees s = record {
      real = entry pass Detach false ∷ s.real;
      stands = since.stands s.real s.stands;
      present = same_left room s.real (h ++ past room) s.present pass;
      whole = λ n. absurd (some_none old.stopped stopped (sym same ∙ n));
      on_disk = λ from is told.
          on_goes room (past room) h old new (entry pass Detach false) from (s.on_disk from is told) (still_grows room (past room) h old new (entry pass Detach false) file)
          (λ n. absurd (some_none old.stopped stopped (sym same ∙ n))) (λ fed live. absurd (true_is_false live)) (λ n. absurd (some_none old.stopped stopped (sym same ∙ n))) (λ n. absurd (some_none old.stopped stopped (sym same ∙ n)))
          (λ why n. stays_cause room (past room) h (entry pass Detach false) (faults from) (faults new.file.disk) why
          (subst (λ (m : ℕ). StopsBy room (past room) h (faults from) m why) (sym here) ((s.on_disk from is told).cause why (sym same ∙ n))));
    }
      where
        room : ℕ
        room = old.object.room

        here : faults new.file.disk ≡ faults old.file.disk
        here = ap (λ (f : RecordFile D). faults f.disk) file

    frees_hosted : Stands old.object.room (past old.object.room) (start old.object.room) old h
        → Stands new.object.room (past new.object.room) (start new.object.room) new (entry pass Detach false ∷ h)
    frees_hosted s = subst (λ (n : ℕ). Stands n (past n) (start n) new (entry pass Detach false ∷ h)) (sym since.same_room) (frees s)

  -- ---- a Detach, whether the room has stopped or not

  module _ (only_now : (disk : D) (c : List ℕ) → is_told disk → left_since disk (moment disk) c → may_leave disk c)
      (past : ℕ → Calls) (start : ℕ → Option D) (old new : KeptRoom D) (pass : ℕ) (call : RoomCall GameKind) (starved : Bool) (is : is_detach call ≡ true) (fed : starved ≡ false)
      (since : Grew old new (entry pass call starved ∷ [])) (same : new.stopped ≡ old.stopped) (file : new.file ≡ old.file) (h : Calls) where
    abbrev the_detach : entry pass call starved ≡ entry pass Detach false
    the_detach = ap (λ (c : RoomCall GameKind). entry pass c starved) (is_the_detach call is) ∙ ap (λ (b : Bool). entry pass Detach b) fed

    by_stop : (why : Option Stop) → old.stopped ≡ why → Stands old.object.room (past old.object.room) (start old.object.room) old h
        → Stands new.object.room (past new.object.room) (start new.object.room) new (entry pass call starved ∷ h)
    by_stop None n s = stays_hosted only_now past start old new (entry pass call starved) since (same ∙ n) h s
    by_stop (Some why) n s =
        subst (λ (e : Entry (RoomCall GameKind)). Stands new.object.room (past new.object.room) (start new.object.room) new (e ∷ h)) (sym the_detach)
        (frees_hosted past start old new pass (subst (λ (e : Entry (RoomCall GameKind)). Grew old new (e ∷ [])) the_detach since)
        (subst (λ (o : Option Stop). IsSome o) (sym n) refl) same file h s)

    pub detaches_hosted : Stands old.object.room (past old.object.room) (start old.object.room) old h
        → Stands new.object.room (past new.object.room) (start new.object.room) new (entry pass call starved ∷ h)
    detaches_hosted s = by_stop old.stopped refl s

    pub detach_answered : (told : RoomReply) → Stands old.object.room (past old.object.room) (start old.object.room) old h
        → ((l : Calls) → stands_in old.object l → told ≡ reply any_rules old.object.room l (entry pass call starved))
        → told ≡ reply any_rules old.object.room (h ++ past old.object.room) (entry pass call starved)
    detach_answered told s answered =
        let room : ℕ = old.object.room in
        answered s.real s.stands
        ∙ ap (λ (e : Entry (RoomCall GameKind)). reply any_rules room s.real e) the_detach
        ∙ same_told room s.real (h ++ past room) s.present pass
        ∙ sym (ap (λ (e : Entry (RoomCall GameKind)). reply any_rules room (h ++ past room) e) the_detach)

  -- ---- replies of a room that goes on

  pub answers_whole : (room : ℕ) (past : Calls) (start : Option D) (r : KeptRoom D) (h : Calls) (e : Entry (RoomCall GameKind)) (told : RoomReply) → r.stopped ≡ None → Stands room past start r h
      → ((l : Calls) → stands_in r.object l → told ≡ reply any_rules room l e) → told ≡ reply any_rules room (h ++ past) e
  answers_whole room past start r h e told n s answered = answered s.real s.stands ∙ ap (λ (l : Calls). reply any_rules room l e) (s.whole n)

  -- ---- a room that was just opened

  opens_on : (room : ℕ) (past : Calls) (start : D) (r : KeptRoom D) → IsOpenedRoom is_told seen may_leave moment left_since faults room start past true r → On room past start r []
  opens_on room past start r o = record {
    keeps = λ n. o.journal.keeps refl;
    crash = λ only. o.journal.crash refl only;
    safe = λ later e earlier is fed live. absurd (none_split later e earlier is);
    never_falls = λ n. o.journal.never_falls;
    fits = λ n. tt;
    cause = λ why n. absurd (none_some why (sym o.whole ∙ n));
  }

  -- ---- all of its history

  abbrev From : ℕ → Option D → KeptRoom D → Calls → Type 0
  From room start r h = StandsFrom is_told seen may_leave moment left_since faults room start r h

  -- what every call makes of a room behind a desk, it makes of all its history
  pub carries : (start : ℕ → Option D) (old new : KeptRoom D) (e : Entry (RoomCall GameKind)) (h : Calls) → From old.object.room (start old.object.room) old h → new.object.room ≡ old.object.room
      → ((past made : Calls) (from : Option D) → Stands old.object.room past from old made → Stands new.object.room past from new (e ∷ made)) → From new.object.room (start new.object.room) new (e ∷ h)
  carries start old new e h s same step = record {
    past = s.past;
    made = e ∷ s.made;
    split = ap (λ (l : Calls). e ∷ l) s.split;
    stands = subst (λ (n : ℕ). Stands new.object.room s.past (start n) new (e ∷ s.made)) (sym same) (step s.past s.made (start old.object.room) s.stands);
    had = λ from is told. subst (λ (n : ℕ). HasJust (seen from) (room_records n s.past)) (sym same) (s.had from (subst (λ (n : ℕ). start n ≡ Some from) same is) told);
  }

  -- a room that was just opened
  pub opens_from : (room passes : ℕ) (past : Calls) (start : Option D) (r : KeptRoom D) → IsOpenedBy is_told seen may_leave moment left_since faults room passes past start r → From room start r past
  opens_from room passes past start r o = record {
    past = past;
    made = [];
    split = refl;
    stands = record {
      real = past;
      stands = o.opened.stands;
      present = λ q. refl;
      whole = λ n. refl;
      on_disk = λ from is told. opens_on room past from r (o.told from is told);
    };
    had = λ from is told. let t = o.told from is told in (t.had refl, t.only refl);
  }

  -- it has the same passes attached after each history that it stands for
  pub nobody_from : (passes : ℕ) (past h : Calls) (start : Option D) (r : KeptRoom D) → IsOpenedBy is_told seen may_leave moment left_since faults r.object.room passes past start r
      → From r.object.room start r h → NobodyAfter r.object.room passes h
  nobody_from passes past h start r o s pass low =
      let all : s.stands.real ≡ h = s.stands.whole o.opened.whole ∙ sym s.split in
      same_attached r.object h past pass (subst (stands_in r.object) all s.stands.stands) o.opened.stands ∙ o.nobody pass low
