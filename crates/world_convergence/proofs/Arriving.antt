-- What comes of a sync line, and of an act's, that arrives.
use Rattle.std.proofs.Common.{◌≡◌, ◌⊎◌, inl, inr, ◌<◌, ℕ, zero, suc, ◌+◌, Bool, true, false, nat_lt, if◌then◌else◌, List, length, Option, Some, None, Ok, Err, refl, sym, ap, ◌∙◌, subst, arith}
use Rattle.std.specs.Prelude.{Result}
use Rattle.std.proofs.lemmas.Bool.Decides.{nat_tests}
use Rattle.game_sheet.specs.MatchName.{Name}
use Rattle.game_sheet.specs.Viewer.{Viewer}
use Rattle.game_trait.specs.Rules.{Rules}
use Rattle.room_object.specs.Entry.{Entry, entry}
use Rattle.room_history.specs.Reply.{Fate, Unheard, Turned, Goes, fate, submit_reply}
use Rattle.room_history.specs.Room.{reply as reply_after, room_of}
use Rattle.room_history.specs.declared.call.RoomCall.{RoomCall}
use Rattle.room_history.specs.declared.call.RoomCall.TheVariants as call
use Rattle.room_history.specs.declared.reply.RoomReply.{RoomReply}
use Rattle.room_history.specs.declared.reply.RoomReply.TheVariants as reply
use Rattle.wire_json.specs.ClientReading.{client_read}
use Rattle.wire_json.specs.Refusals.{Refusal as Fault}
use Rattle.wire_json.specs.declared.client.ClientMsg.{ClientMsg}
use Rattle.wire_json.specs.declared.client.ClientMsg.TheVariants as line
use Rattle.wire_json.specs.declared.protocol.Protocol.{Protocol}
use Rattle.wire_json.specs.declared.refusal.Refusal.{Refusal}
use Rattle.wire_json.specs.declared.refusal.Refusal.TheVariants as refusal
use Rattle.wire_json.specs.declared.submission.Submission.{Submission}
use Rattle.game_hall.specs.Core.{Core, moved}
use Rattle.game_hall.specs.Requests.{acts, after_attach, after_submit, hears, is_attached, is_judged, member_of, next, refusal_by, refuses, syncs, undone}
use Rattle.game_hall.specs.Run.{run}
use Rattle.game_hall.specs.declared.answer.Answer.{Answer}
use Rattle.game_hall.specs.declared.answer.Answer.TheVariants.{Again, Refused}
use Rattle.game_hall.specs.declared.next.Next.{Next}
use Rattle.game_hall.specs.declared.next.Next.TheVariants.{Calls, Says, Attaches, Silent}
use Rattle.game_hall.specs.declared.request.Request.{Request}
use Rattle.game_hall.specs.declared.request.Request.TheVariants.{Syncing, Acting}
use Rattle.game_hall.proofs.Running.{moved_over}
use Rattle.hall_history.specs.Hall.{Hall, after_line, attached_to, core_of, request}
use Rattle.hall_history.specs.Mark.{Luck, Lucky, Mark, Served, Unread, Starved, ask_rooms, told_by, unheard}
use Rattle.hall_history.specs.Parts.{hall_by, entry_by, runs_out}
use Rattle.hall_history.specs.Rooms.{history_of, reply_in, with_entry}
use Rattle.hall_history.proofs.Placing.{same_at}

-- ---- a request of one call at most

abbrev Ends : {X : Type 0} → Next X → Type 0
Ends (Calls room made request) = ⊥
Ends next = Unit {0}

ends_if : {X : Type 0} (b : Bool) (x y : Next X) → Ends x → Ends y → Ends (if b then x else y)
ends_if true x y h k = h
ends_if false x y h k = k

module _ {X S : Type 0} (named : List ℕ → Option X) (ask : ℕ → RoomCall X → S → RoomReply × S) where
  stands : (n : ℕ) (c : Core X) (x : Next X) (s : S) → Ends x → run named ask n (moved c x) s ≡ (moved c x, s)
  stands zero c x s h = refl
  stands (suc n) c (Calls room made request) s h = absurd h
  stands (suc n) c (Says a) s h = refl
  stands (suc n) c (Attaches room) s h = refl
  stands (suc n) c Silent s h = refl

  one_more : (n : ℕ) → n + 1 ≡ suc n
  one_more n = omega arith

  one_call : (n : ℕ) (c : Core X) (room : ℕ) (made : RoomCall X) (request : Request) (s : S) → Ends (next named c.rooms request (ask room made s).0)
      → run named ask (n + 1) (moved c (Calls room made request)) s ≡ (moved c (next named c.rooms request (ask room made s).0), (ask room made s).1)
  one_call n c room made request s h =
      let told = ask room made s in
      ap (λ k. run named ask k (moved c (Calls room made request)) s) (one_more n)
      ∙ ap (λ d. run named ask n d told.1) (moved_over c room made request (next named c.rooms request told.0))
      ∙ stands n c (next named c.rooms request told.0) told.1 h

-- ---- direct answers to these lines

abbrev pub IsPlainAnswer : Answer → Type 0
IsPlainAnswer a = (a ≡ Again None) ⊎ ((why : Refusal) × (a ≡ Refused why))

undone_plain : (told : RoomReply) → IsPlainAnswer (undone None told)
undone_plain (reply.Created serial) = inr (refusal_by (reply.Created serial), refl)
undone_plain reply.Joined = inr (refusal_by reply.Joined, refl)
undone_plain reply.Renamed = inr (refusal_by reply.Renamed, refl)
undone_plain reply.Left = inr (refusal_by reply.Left, refl)
undone_plain reply.Cleared = inr (refusal_by reply.Cleared, refl)
undone_plain (reply.Looked row) = inr (refusal_by (reply.Looked row), refl)
undone_plain reply.Attached = inr (refusal_by reply.Attached, refl)
undone_plain (reply.Verdict v) = inr (refusal_by (reply.Verdict v), refl)
undone_plain (reply.Taken bytes end) = inr (refusal_by (reply.Taken bytes end), refl)
undone_plain reply.Detached = inr (refusal_by reply.Detached, refl)
undone_plain reply.Busy = inr (refusal_by reply.Busy, refl)
undone_plain reply.BadSeats = inr (refusal_by reply.BadSeats, refl)
undone_plain reply.NoStart = inr (refusal_by reply.NoStart, refl)
undone_plain reply.NoMatch = inr (refusal_by reply.NoMatch, refl)
undone_plain reply.NoSeat = inr (refusal_by reply.NoSeat, refl)
undone_plain reply.SeatTaken = inr (refusal_by reply.SeatTaken, refl)
undone_plain reply.BadName = inr (refusal_by reply.BadName, refl)
undone_plain reply.AlreadyAttached = inr (refusal_by reply.AlreadyAttached, refl)
undone_plain reply.Unauthorized = inr (refusal_by reply.Unauthorized, refl)
undone_plain reply.NotAttached = inr (refusal_by reply.NotAttached, refl)
undone_plain reply.NoMemory = inl refl

-- the line was answered, and nobody is attached elsewhere
pub record IsAnswered {X : Type 0} (h : Hall X) (done : Hall X × Option Answer) (a : Answer) : Type 0 where
  pub said : done.1 ≡ Some a
  pub at : (q : ℕ) → done.0.at q ≡ h.at q

-- the rooms are as they were too
pub record IsAside {X : Type 0} (h : Hall X) (done : Hall X × Option Answer) (a : Answer) : Type 0 where
  pub answered : IsAnswered h done a
  pub rooms : done.0.rooms ≡ h.rooms

-- the answers to an act that its room doesn't judge
abbrev pub IsActAnswer : ℕ → Answer → Type 0
IsActAnswer ticket a = IsPlainAnswer a ⊎ (a ≡ Again (Some ticket))

-- the session of a pass asked its room
pub record HasAsked {X : Type 0} (h : Hall X) (pass room : ℕ) (s : Submission) (done : Hall X × Option Answer) : Type 0 where
  pub starved : Bool
  pub rooms : done.0.rooms ≡ with_entry h.rooms room (entry pass (call.Submit s) starved)
  pub at : (q : ℕ) → done.0.at q ≡ h.at q
  pub said : ((starved ≡ true) × (done.1 ≡ Some (Again (Some s.ticket)))) ⊎ ((starved ≡ false) × ((done.1 ≡ None) ⊎ ((why : Refusal) × (done.1 ≡ Some (Refused why)))))

-- the pass was attached in a room
pub record IsMet {X : Type 0} (h : Hall X) (pass : ℕ) (name : Name) (viewer : Viewer) (protocol : Protocol) (done : Hall X × Option Answer) : Type 0 where
  pub starved : Bool
  pub there : name.room < length h.rooms
  pub rooms : done.0.rooms ≡ with_entry h.rooms name.room (entry pass (call.Attach name.serial viewer protocol) starved)
  pub at : (q : ℕ) → done.0.at q ≡ attached_to pass (Some name.room) h.at q
  pub said : done.1 ≡ None

below_is : (m n : ℕ) → nat_lt m n ≡ true → m < n
below_is m n e = grind (arith, nat_tests)

module _ {X G : Type 0} (named : List ℕ → Option X) (rules : X → Rules G) (tape : ℕ → List ℕ) (h : Hall X) (pass : ℕ) where
  abbrev lucky : Luck → Lucky X
  lucky luck = record { rooms = h.rooms; luck = luck }

  abbrev goes : Luck → Next X → Core X × Lucky X
  goes luck x = run named (ask_rooms rules pass) (length h.rooms + 1) (moved (core_of h pass) x) (lucky luck)

  -- with the request at its end
  says_it : (read : Result ClientMsg Fault) (done : Core X × Lucky X) (a : Answer) → done.0 ≡ moved (core_of h pass) (Says a) → IsAnswered h (hall_by h pass read done) a
  says_it read done a e = record {
    said = ap (λ (c : Core X). c.said) e;
    at = λ q. same_at h.at pass done.0.at q (ap (λ (c : Core X). c.at) e);
  }

  stood : (luck : Luck) (x : Next X) (a : Answer) → x ≡ Says a → (goes luck x).0 ≡ moved (core_of h pass) (Says a)
  stood luck x a e = ap (λ y. (goes luck y).0) e ∙ ap (λ d. d.0) (stands named (ask_rooms rules pass) (length h.rooms + 1) (core_of h pass) (Says a) (lucky luck) tt)

  stood_rooms : (luck : Luck) (x : Next X) (a : Answer) → x ≡ Says a → (goes luck x).1.rooms ≡ h.rooms
  stood_rooms luck x a e = ap (λ y. (goes luck y).1.rooms) e ∙ ap (λ d. d.1.rooms) (stands named (ask_rooms rules pass) (length h.rooms + 1) (core_of h pass) (Says a) (lucky luck) tt)

  -- ---- an answer alone

  luck_says : (luck : Luck) (read : Result ClientMsg Fault) (a : Answer) → hears named (length h.rooms) (h.at pass) read (tape h.place) h.seed ≡ Says a
      → IsAside h (hall_by h pass read (goes luck (hears named (length h.rooms) (h.at pass) read (tape h.place) h.seed))) a
  luck_says luck read a e =
      let x = hears named (length h.rooms) (h.at pass) read (tape h.place) h.seed in
      record { answered = says_it read (goes luck x) a (stood luck x a e); rooms = stood_rooms luck x a e }

  starved_aside : (read : Result ClientMsg Fault) (ticket : Option ℕ) → IsAside h (hall_by h pass read (moved (core_of h pass) (Says (Again ticket)), lucky None)) (Again ticket)
  starved_aside read ticket = record { answered = says_it read (moved (core_of h pass) (Says (Again ticket)), lucky None) (Again ticket) refl; rooms = refl }

  abbrev Faulty : Hall X × Option Answer → Type 0
  Faulty done = (a : Answer) × IsPlainAnswer a × IsAside h done a

  abbrev by_mark : Mark → Result ClientMsg Fault → Hall X × Option Answer
  by_mark mark read = hall_by h pass read (request named rules tape mark h pass read)

  -- a line that is no message
  pub faulty : (mark : Mark) (text : List ℕ) (fault : Fault) → client_read text ≡ Err fault → Faulty (after_line named rules tape mark h pass text)
  faulty mark text fault e = subst (λ read. Faulty (by_mark mark read)) (sym e) (by mark)
    where
      by : (mark : Mark) → Faulty (by_mark mark (Err fault))
      by Served = (Refused (refusal.BadMessage (member_of fault)), inr (refusal.BadMessage (member_of fault), refl), luck_says None (Err fault) (Refused (refusal.BadMessage (member_of fault))) refl)
      by Unread = (Again None, inl refl, starved_aside (Err fault) None)
      by (Starved zero there) = (Again None, inl refl, starved_aside (Err fault) None)
      by (Starved (suc n) there) = (
        Refused (refusal.BadMessage (member_of fault)),
        inr (refusal.BadMessage (member_of fault), refl),
        luck_says (Some (suc n, there)) (Err fault) (Refused (refusal.BadMessage (member_of fault))) refl,
      )

  -- ---- an act

  abbrev pub ActAside : Submission → Hall X × Option Answer → Type 0
  ActAside s done = (a : Answer) × IsActAnswer s.ticket a × IsAside h done a

  pub act_apart : (mark : Mark) (text : List ℕ) (s : Submission) → client_read text ≡ Ok (line.Act s) → h.at pass ≡ None → ActAside s (after_line named rules tape mark h pass text)
  act_apart mark text s e none = subst (λ read. ActAside s (by_mark mark read)) (sym e) (by mark)
    where
      refused : hears named (length h.rooms) (h.at pass) (Ok (line.Act s)) (tape h.place) h.seed ≡ Says (Refused refusal.NotAttached)
      refused = ap (λ o. acts o (call.Submit s) s.ticket) none

      by : (mark : Mark) → ActAside s (by_mark mark (Ok (line.Act s)))
      by Served = (Refused refusal.NotAttached, inl (inr (refusal.NotAttached, refl)), luck_says None (Ok (line.Act s)) (Refused refusal.NotAttached) refused)
      by Unread = (Again None, inl (inl refl), starved_aside (Ok (line.Act s)) None)
      by (Starved zero there) = (Again (Some s.ticket), inr refl, starved_aside (Ok (line.Act s)) (Some s.ticket))
      by (Starved (suc n) there) =
          (Refused refusal.NotAttached, inl (inr (refusal.NotAttached, refl)), luck_says (Some (suc n, there)) (Ok (line.Act s)) (Refused refusal.NotAttached) refused)

  module _ (room : ℕ) (s : Submission) where
    abbrev entry_of : Bool → Entry (RoomCall X)
    entry_of starved = entry pass (call.Submit s) starved

    submit_ends : (told : RoomReply) → Ends {X = X} (after_submit s.ticket told)
    submit_ends told = ends_if (is_judged told) Silent (Says (undone (Some s.ticket) told)) tt tt

    starved_told : reply_in rules h.rooms room (entry_of true) ≡ reply.NoMemory
    unfolding reply_after
    starved_told = refl

    heard_told : reply_in rules h.rooms room (entry_of false) ≡ submit_reply (fate rules room (room_of rules room (history_of h.rooms room)).standing ((room_of rules room (history_of h.rooms room)).sessions pass) s)
    unfolding reply_after
    heard_told = refl

    told_none : (luck : Luck) → told_by luck reply.NoMemory ≡ reply.NoMemory
    told_none luck = by (runs_out luck)
      where
        by : (b : Bool) → (if b then unheard reply.NoMemory else reply.NoMemory) ≡ reply.NoMemory
        by true = refl
        by false = refl

    told_verdict : (luck : Luck) (f : Fate X G) → told_by luck (submit_reply f) ≡ submit_reply f
    told_verdict luck f = by (runs_out luck) f
      where
        by : (b : Bool) (f : Fate X G) → (if b then unheard (submit_reply f) else submit_reply f) ≡ submit_reply f
        by true Unheard = refl
        by true (Turned n reason) = refl
        by true (Goes m) = refl
        by false f = refl

    abbrev Said : Bool → Option Answer → Type 0
    Said starved said = ((starved ≡ true) × (said ≡ Some (Again (Some s.ticket)))) ⊎ ((starved ≡ false) × ((said ≡ None) ⊎ ((why : Refusal) × (said ≡ Some (Refused why)))))

    said_of : (f : Fate X G) → Said false (moved (core_of h pass) (after_submit s.ticket (submit_reply f))).said
    said_of Unheard = inr (refl, inr (refusal.NotAttached, refl))
    said_of (Turned n reason) = inr (refl, inl refl)
    said_of (Goes m) = inr (refl, inl refl)

    said_by : (luck : Luck) (starved : Bool) → Said starved (moved (core_of h pass) (after_submit s.ticket (told_by luck (reply_in rules h.rooms room (entry_of starved))))).said
    said_by luck true = inl (refl, ap (λ told. (moved (core_of h pass) (after_submit s.ticket told)).said) (ap (told_by luck) starved_told ∙ told_none luck))
    said_by luck false =
        let f = fate rules room (room_of rules room (history_of h.rooms room)).standing ((room_of rules room (history_of h.rooms room)).sessions pass) s in
        subst (λ told. Said false (moved (core_of h pass) (after_submit s.ticket told)).said) (sym (ap (told_by luck) heard_told ∙ told_verdict luck f)) (said_of f)

    stays_there : (told : RoomReply) → (moved (core_of h pass) (after_submit s.ticket told)).at ≡ h.at pass
    stays_there told = by (is_judged told)
      where
        by : (b : Bool) → (moved (core_of h pass) (if b then Silent else Says (undone (Some s.ticket) told))).at ≡ h.at pass
        by true = refl
        by false = refl

    luck_asks : (luck : Luck) → h.at pass ≡ Some room → HasAsked h pass room s (hall_by h pass (Ok (line.Act s)) (goes luck (hears named (length h.rooms) (h.at pass) (Ok (line.Act s)) (tape h.place) h.seed)))
    luck_asks luck sits =
        let x = hears named (length h.rooms) (h.at pass) (Ok (line.Act s)) (tape h.place) h.seed in
        let starved = (entry_by {X = X} pass (call.Submit s) luck).starved in
        let told = told_by luck (reply_in rules h.rooms room (entry_of starved)) in
        let done : Core X × Lucky X = goes luck x in
        let is : done ≡ (moved (core_of h pass) (after_submit s.ticket told), (ask_rooms rules pass room (call.Submit s) (lucky luck)).1)
        = ap (goes luck) (ap (λ o. acts o (call.Submit s) s.ticket) sits)
        ∙ one_call named (ask_rooms rules pass) (length h.rooms) (core_of h pass) room (call.Submit s) (Acting s.ticket) (lucky luck) (submit_ends told) in
        record {
          starved = starved;
          rooms = ap (λ d. d.1.rooms) is;
          at = λ q. same_at h.at pass done.0.at q (ap (λ d. d.0.at) is ∙ stays_there told);
          said = subst (Said starved) (sym (ap (λ d. d.0.said) is)) (said_by luck starved);
        }

  pub act_there : (mark : Mark) (text : List ℕ) (room : ℕ) (s : Submission) → client_read text ≡ Ok (line.Act s) → h.at pass ≡ Some room
      → ActAside s (after_line named rules tape mark h pass text) ⊎ HasAsked h pass room s (after_line named rules tape mark h pass text)
  act_there mark text room s e sits = subst (λ read. ActAside s (by_mark mark read) ⊎ HasAsked h pass room s (by_mark mark read)) (sym e) (by mark)
    where
      by : (mark : Mark) → ActAside s (by_mark mark (Ok (line.Act s))) ⊎ HasAsked h pass room s (by_mark mark (Ok (line.Act s)))
      by Served = inr (luck_asks room s None sits)
      by Unread = inl (Again None, inl (inl refl), starved_aside (Ok (line.Act s)) None)
      by (Starved zero there) = inl (Again (Some s.ticket), inr refl, starved_aside (Ok (line.Act s)) (Some s.ticket))
      by (Starved (suc n) there) = inr (luck_asks room s (Some (suc n, there)) sits)

  -- ---- a sync

  abbrev pub SyncAside : Hall X × Option Answer → Type 0
  SyncAside done = (a : Answer) × IsPlainAnswer a × IsAnswered h done a

  module _ (name : Name) (viewer : Viewer) (protocol : Protocol) (free : h.at pass ≡ None) where
    abbrev attach : RoomCall X
    attach = call.Attach name.serial viewer protocol

    attach_ends : (told : RoomReply) → Ends {X = X} (after_attach name.room told)
    attach_ends told = ends_if (is_attached told) (Attaches name.room) (Says (undone None told)) tt tt

    abbrev Outcome : Hall X × Option Answer → Type 0
    Outcome done = SyncAside done ⊎ IsMet h pass name viewer protocol done

    met_by : (luck : Luck) (starved : Bool) (told : RoomReply) (b : Bool) → name.room < length h.rooms → (done : Core X × Lucky X)
        → done.0 ≡ moved (core_of h pass) (if b then Attaches name.room else Says (undone None told)) → done.1.rooms ≡ with_entry h.rooms name.room (entry pass attach starved)
        → Outcome (hall_by h pass (Ok (line.Sync name viewer protocol)) done)
    met_by luck starved told true there done is rooms = inr (record {
      starved = starved;
      there = there;
      rooms = rooms;
      at = λ q. ap (λ o. attached_to pass o h.at q) (ap (λ (c : Core X). c.at) is);
      said = ap (λ (c : Core X). c.said) is;
    })
    met_by luck starved told false there done is rooms = inl (undone None told, undone_plain told, says_it (Ok (line.Sync name viewer protocol)) done (undone None told) is)

    luck_meets : (luck : Luck) → Outcome (hall_by h pass (Ok (line.Sync name viewer protocol)) (goes luck (hears named (length h.rooms) (h.at pass) (Ok (line.Sync name viewer protocol)) (tape h.place) h.seed)))
    luck_meets luck = subst (λ y. Outcome (hall_by h pass (Ok (line.Sync name viewer protocol)) (goes luck y))) (sym (ap (λ o. syncs (length h.rooms) o name.room attach) free)) (by (nat_lt name.room (length h.rooms)) refl)
      where
        by : (b : Bool) → nat_lt name.room (length h.rooms) ≡ b → Outcome (hall_by h pass (Ok (line.Sync name viewer protocol)) (goes luck (if b then Calls name.room attach (Syncing name.room) else refuses refusal.NoMatch)))
        by true e =
            let told = (ask_rooms rules pass name.room attach (lucky luck)).0 in
            let is = one_call named (ask_rooms rules pass) (length h.rooms) (core_of h pass) name.room attach (Syncing name.room) (lucky luck) (attach_ends told) in
            met_by luck (entry_by pass attach luck).starved told (is_attached told) (below_is name.room (length h.rooms) e) (goes luck (Calls name.room attach (Syncing name.room)))
            (ap (λ d. d.0) is) (ap (λ d. d.1.rooms) is)
        by false e =
            inl (
              Refused refusal.NoMatch,
              inr (refusal.NoMatch, refl),
              says_it (Ok (line.Sync name viewer protocol)) (goes luck (refuses refusal.NoMatch)) (Refused refusal.NoMatch) (stood luck (refuses refusal.NoMatch) (Refused refusal.NoMatch) refl),
            )

  pub sync_comes : (mark : Mark) (text : List ℕ) (name : Name) (viewer : Viewer) (protocol : Protocol) → client_read text ≡ Ok (line.Sync name viewer protocol) → h.at pass ≡ None
      → SyncAside (after_line named rules tape mark h pass text) ⊎ IsMet h pass name viewer protocol (after_line named rules tape mark h pass text)
  sync_comes mark text name viewer protocol e free = subst (λ read. SyncAside (by_mark mark read) ⊎ IsMet h pass name viewer protocol (by_mark mark read)) (sym e) (by mark)
    where
      by : (mark : Mark) → SyncAside (by_mark mark (Ok (line.Sync name viewer protocol))) ⊎ IsMet h pass name viewer protocol (by_mark mark (Ok (line.Sync name viewer protocol)))
      by Served = luck_meets name viewer protocol free None
      by Unread = inl (Again None, inl refl, (starved_aside (Ok (line.Sync name viewer protocol)) None).answered)
      by (Starved zero there) = inl (Again None, inl refl, (starved_aside (Ok (line.Sync name viewer protocol)) None).answered)
      by (Starved (suc n) there) = luck_meets name viewer protocol free (Some (suc n, there))
