-- Calls that ask for no change, and what the others make of who is attached.
use Rattle.std.proofs.Common.{◌≡◌, ◌≤◌, ◌==◌, inr, ℕ, Bool, true, false, if◌then◌else◌, List, [], ◌∷◌, ◌++◌, length, Option, Some, None, option_map, is_some, refl, sym, ap, ◌∙◌, subst, append-nil}
use Rattle.any_game.specs.AnyRules.{any_rules}
use Rattle.any_game.specs.GameKind.{GameKind}
use Rattle.change_text.specs.Payload.{payload}
use Rattle.game_sheet.specs.declared.act.Bye.{Bye}
use Rattle.match_master.specs.Held.{may_starve}
use Rattle.object_journal.specs.Keeping.{IsPast}
use Rattle.object_journal.specs.declared.performing.Stop.{Stop}
use Rattle.object_journal.specs.declared.performing.Stop.TheVariants as stop
use Rattle.record_file.specs.Records.{HasRecords, IsSettled, open_records}
use Rattle.record_file.specs.declared.append.RecordFile.{RecordFile}
use Rattle.record_file.proofs.Composing.{weaker}
use Rattle.room_changes.specs.ChangesOf.{change_asked, change_made, changes_of, is_accepted}
use Rattle.room_changes.specs.declared.change.Change.{Change}
use Rattle.room_disk.specs.Disk.{LeavesOnly}
use Rattle.room_history.specs.Held.{attachment_state, state_by}
use Rattle.room_history.specs.Outbox.{Attachment, attachment_of}
use Rattle.room_history.specs.Presence.{attached_after, is_attached}
use Rattle.room_history.specs.Room.{reply, room_of, viewer_of}
use Rattle.room_history.specs.Session.{detach_reply}
use Rattle.room_history.specs.declared.call.RoomCall.{RoomCall}
use Rattle.room_history.specs.declared.call.RoomCall.TheVariants.{Create, Join, Rename, Leave, Look, Attach, Submit, Take, Detach, Clear}
use Rattle.room_history.specs.declared.reply.RoomReply.{RoomReply}
use Rattle.room_history.specs.declared.reply.RoomReply.TheVariants as answer
use Rattle.room_history.proofs.Attachments.{attachment_step, reply_by_held}
use Rattle.room_history.proofs.Presence.{presence, want_presence}
use Rattle.room_journal.specs.Kept.{room_records, texts}
use Rattle.room_object.specs.Entry.{entry}
use Rattle.kept_room.specs.Asides.{is_aside, is_detach}
use Rattle.kept_room.specs.Journal.{Calls, Goes, HasPart, IsOver, Since, StopRaises, stands_in}
use Rattle.kept_room.specs.declared.room.KeptRoom.{KeptRoom}
use Rattle.kept_room.proofs.Journals.{at_rest, some_is_none, stays_at}

pub false_is_true : false ≡ true → ⊥
false_is_true e = cc

-- ---- which calls they are

pub is_the_detach : (call : RoomCall GameKind) → is_detach call ≡ true → call ≡ Detach
is_the_detach (Create game seats seed) e = absurd (false_is_true e)
is_the_detach (Join serial seat name key) e = absurd (false_is_true e)
is_the_detach (Rename serial seat key name) e = absurd (false_is_true e)
is_the_detach (Leave serial seat key) e = absurd (false_is_true e)
is_the_detach (Look serial) e = absurd (false_is_true e)
is_the_detach (Attach serial viewer protocol) e = absurd (false_is_true e)
is_the_detach (Submit s) e = absurd (false_is_true e)
is_the_detach Take e = absurd (false_is_true e)
is_the_detach Detach e = refl
is_the_detach (Clear serial) e = absurd (false_is_true e)

-- a Detach is never refused
pub is_detach_fed : (call : RoomCall GameKind) (starved : Bool) → is_detach call ≡ true → (starved ≡ true → may_starve call ≡ true) → starved ≡ false
is_detach_fed call true e fed = absurd (false_is_true (subst (λ (c : RoomCall GameKind). may_starve c ≡ true) (is_the_detach call e) (fed refl)))
is_detach_fed call false e fed = refl

pub asks_none : (viewer : Option (Option ℕ)) (call : RoomCall GameKind) → is_aside call ≡ true → change_asked viewer call ≡ None
asks_none viewer (Create game seats seed) e = absurd (false_is_true e)
asks_none viewer (Join serial seat name key) e = absurd (false_is_true e)
asks_none viewer (Rename serial seat key name) e = absurd (false_is_true e)
asks_none viewer (Leave serial seat key) e = absurd (false_is_true e)
asks_none viewer (Look serial) e = refl
asks_none viewer (Attach serial seat protocol) e = refl
asks_none viewer (Submit s) e = absurd (false_is_true e)
asks_none viewer Take e = refl
asks_none viewer Detach e = refl
asks_none viewer (Clear serial) e = absurd (false_is_true e)

-- ---- no change, no record

none_made : (b : Bool) (o : Option (Change GameKind)) (cs : List (Change GameKind)) → o ≡ None → cs ++ change_made b o ≡ cs
none_made true None cs e = append-nil cs
none_made false None cs e = append-nil cs
none_made b (Some c) cs e = absurd (cc)

module _ (room : ℕ) (h : Calls) (pass : ℕ) (call : RoomCall GameKind) (starved : Bool) (aside : is_aside call ≡ true) where
  pub same_changes : changes_of any_rules room (entry pass call starved ∷ h) ≡ changes_of any_rules room h
  same_changes =
      none_made (is_accepted (reply any_rules room h (entry pass call starved))) (change_asked (viewer_of any_rules room h pass) call) (changes_of any_rules room h)
      (asks_none (viewer_of any_rules room h pass) call aside)

  pub same_records : room_records room (entry pass call starved ∷ h) ≡ room_records room h
  same_records = ap texts same_changes

  never_over : IsOver room h (entry pass call starved) → ⊥
  never_over over =
      subst (λ (o : Option (Change GameKind)). IsPast (length (open_records (room_records room h))) (option_map (payload any_rules) o)) (asks_none (viewer_of any_rules room h pass) call aside) over

-- ---- who is attached

either : (b x : Bool) → (if b then x else x) ≡ x
either true x = refl
either false x = refl

-- a call that asks for a change attaches and frees nobody
unattached : (b before : Bool) (call : RoomCall GameKind) (told : RoomReply) → is_aside call ≡ false → (if b then attached_after before call told else before) ≡ before
unattached b before (Create game seats seed) told e = either b before
unattached b before (Join serial seat name key) told e = either b before
unattached b before (Rename serial seat key name) told e = either b before
unattached b before (Leave serial seat key) told e = either b before
unattached b before (Look serial) told e = absurd (false_is_true (sym e))
unattached b before (Attach serial viewer protocol) told e = absurd (false_is_true (sym e))
unattached b before (Submit s) told e = either b before
unattached b before Take told e = absurd (false_is_true (sym e))
unattached b before Detach told e = absurd (false_is_true (sym e))
unattached b before (Clear serial) told e = either b before

module _ (room : ℕ) where
  pub stays_attached : (h : Calls) (pass : ℕ) (call : RoomCall GameKind) (starved : Bool) → is_aside call ≡ false → (q : ℕ)
      → is_attached any_rules room (entry pass call starved ∷ h) q ≡ is_attached any_rules room h q
  stays_attached h pass call true e q = want_presence any_rules room h pass q call
  stays_attached h pass call false e q =
      presence any_rules room h pass q call
      ∙ unattached (pass == q) (is_attached any_rules room h q) call (reply any_rules room h (entry pass call false)) e

  -- a Detach frees its own pass, and no other
  freed : (b : Bool) (a : Option Attachment) → is_some (if b then None else a) ≡ (if b then false else is_some a)
  freed true a = refl
  freed false a = refl

  pub detached : (h : Calls) (pass q : ℕ) → is_attached any_rules room (entry pass Detach false ∷ h) q ≡ (if pass == q then false else is_attached any_rules room h q)
  detached h pass q =
      ap (λ (a : Option Attachment). is_some a) (attachment_step any_rules room h pass q Detach)
      ∙ freed (pass == q) (attachment_of ((room_of any_rules room h).sessions q))

  -- and its reply says whether it was attached
  ended_told : (end : Option Bye) → detach_reply (state_by end) ≡ answer.Detached
  ended_told None = refl
  ended_told (Some why) = refl

  held_told : (a : Option Attachment) → detach_reply (attachment_state a) ≡ (if is_some a then answer.Detached else answer.NotAttached)
  held_told None = refl
  held_told (Some a) = ended_told a.outbox.end

  detach_told : (h : Calls) (pass : ℕ) → reply any_rules room h (entry pass Detach false) ≡ (if is_attached any_rules room h pass then answer.Detached else answer.NotAttached)
  detach_told h pass = reply_by_held any_rules room h pass Detach ∙ held_told (attachment_of ((room_of any_rules room h).sessions pass))

  module _ (h g : Calls) (present : (q : ℕ) → is_attached any_rules room h q ≡ is_attached any_rules room g q) (pass : ℕ) where
    pub same_told : reply any_rules room h (entry pass Detach false) ≡ reply any_rules room g (entry pass Detach false)
    same_told =
        detach_told h pass
        ∙ ap (λ (b : Bool). if b then answer.Detached else answer.NotAttached) (present pass)
        ∙ sym (detach_told g pass)

    pub same_left : (q : ℕ) → is_attached any_rules room (entry pass Detach false ∷ h) q ≡ is_attached any_rules room (entry pass Detach false ∷ g) q
    same_left q =
        detached h pass q
        ∙ ap (λ (b : Bool). if pass == q then false else b) (present q)
        ∙ sym (detached g pass q)

-- ---- one such call

module _ {D : Type 0} (is_told : D → Type 0) (seen : D → List ℕ) (may_leave : D → List ℕ → Type 0) (moment : D → ℕ) (left_since : D → ℕ → List ℕ → Type 0) (faults : D → ℕ)
    (only_now : (disk : D) (c : List ℕ) → is_told disk → left_since disk (moment disk) c → may_leave disk c) (old new : KeptRoom D) (pass : ℕ) (call : RoomCall GameKind) (starved : Bool)
    (aside : is_aside call ≡ true) (stopped : new.stopped ≡ old.stopped) (file : new.file ≡ old.file) (room : new.object.room ≡ old.object.room) where
  abbrev Lies : RecordFile D → List (List ℕ) → Type 0
  Lies f records = IsSettled is_told seen may_leave f.disk f.end records

  -- its records stay where they were
  still_settled : (h : Calls) → Lies old.file (room_records old.object.room h) → Lies new.file (room_records new.object.room (entry pass call starved ∷ h))
  still_settled h s =
      subst (λ (f : RecordFile D). Lies f (room_records new.object.room (entry pass call starved ∷ h))) (sym file)
      (subst (λ (n : ℕ). Lies old.file (room_records n (entry pass call starved ∷ h))) (sym room)
      (subst (λ (records : List (List ℕ)). Lies old.file records) (sym (same_records old.object.room h pass call starved aside)) s))

  goes_by : (why : Option Stop) → old.stopped ≡ why → Goes is_told seen may_leave moment left_since faults why old new
  goes_by None n =
      subst (λ (s : Option Stop). StopRaises s (faults old.file.disk) (faults new.file.disk)) (sym (stopped ∙ n))
      (subst (λ (f : RecordFile D). faults old.file.disk ≤ faults f.disk) (sym file) (stays_at (faults old.file.disk)))
  goes_by (Some why) n = (stopped ∙ n, file)

  pub since_aside : ((h : Calls) → stands_in old.object h → stands_in new.object (entry pass call starved ∷ h))
      → Since is_told seen may_leave moment left_since faults old new (entry pass call starved ∷ [])
  since_aside stands = record {
    same_room = room;
    stands = stands;
    whole = λ n. sym stopped ∙ n;
    kept = λ n h k. record { stands = stands h k.stands; settled = still_settled h k.settled };
    crash = λ h n k.
        let records : Calls → List (List ℕ) = room_records old.object.room in
        subst (λ (f : RecordFile D). LeavesOnly moment left_since old.file.disk f.disk (HasPart records h (entry pass call starved ∷ []))) (sym file)
        (weaker moment left_since old.file.disk old.file.disk (λ c. HasRecords c (records h)) (HasPart records h (entry pass call starved ∷ [])) (λ c has. inr has)
        (at_rest is_told seen may_leave moment left_since faults only_now old h k));
    goes = goes_by old.stopped refl;
    fits = λ h n k. (λ fed over. never_over old.object.room h pass call starved aside over, tt);
    full = λ h n k place f. absurd (some_is_none (stop.Full place) (sym f ∙ stopped ∙ n));
  }
