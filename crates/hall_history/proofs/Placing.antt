-- The hall and its rooms go on to agree on who is attached where.
use Rattle.std.proofs.Common.{◌≡◌, ◌<◌, ◌⊎◌, inl, inr, ℕ, zero, suc, ◌+◌, ◌==◌, Bool, true, false, if◌then◌else◌, List, [], ◌∷◌, length, replicate, Option, Some, None, Result, refl, sym, ap, ◌∙◌, subst, arith}
use Rattle.game_trait.specs.Rules.{Rules}
use Rattle.game_sheet.specs.Viewer.{Viewer}
use Rattle.room_object.specs.Entry.{Entry, entry}
use Rattle.room_history.specs.Presence.{is_attached, attached_after, after_attach as after_attaching}
use Rattle.room_history.specs.Room.{reply}
use Rattle.room_history.specs.declared.call.RoomCall.{RoomCall}
use Rattle.room_history.specs.declared.call.RoomCall.TheVariants as call
use Rattle.room_history.specs.declared.reply.RoomReply.{RoomReply}
use Rattle.room_history.specs.declared.reply.RoomReply.TheVariants as told_as
use Rattle.room_history.proofs.Presence.{presence, want_presence}
use Rattle.wire_json.specs.ClientReading.{client_read}
use Rattle.wire_json.specs.Refusals.{Refusal as Fault}
use Rattle.wire_json.specs.declared.client.ClientMsg.{ClientMsg}
use Rattle.wire_json.specs.declared.protocol.Protocol.{Protocol}
use Rattle.game_hall.specs.Core.{Core, asked, moved}
use Rattle.game_hall.specs.Requests.{after_attach, is_attached as is_attached_reply, hears, next, undone}
use Rattle.game_hall.specs.Run.{run}
use Rattle.game_hall.specs.declared.next.Next.{Next}
use Rattle.game_hall.specs.declared.next.Next.TheVariants.{Calls, Says, Attaches, Silent}
use Rattle.game_hall.specs.declared.request.Request.{Request}
use Rattle.game_hall.specs.declared.request.Request.TheVariants.{Creating, Listing, Looking, Joining, Renaming, Leaving, Syncing, Acting}
use Rattle.game_hall.proofs.Running.{moved_over}
use Rattle.hall_history.specs.Adding.{IsPlain}
use Rattle.hall_history.specs.Freeing.{frees, freed}
use Rattle.hall_history.specs.Hall.{Hall, after_line, attached_to, begun, core_of, new_hall, request, runs}
use Rattle.hall_history.specs.Mark.{Luck, Lucky, Mark, Served, Unread, Starved, ask_rooms, told_by, unheard}
use Rattle.hall_history.specs.Parts.{frees_at, room_after, entry_by, runs_out}
use Rattle.hall_history.specs.Placed.{IsPlaced, is_at}
use Rattle.hall_history.specs.Rooms.{History, Rooms, history_of, reply_in, with_entry}
use Rattle.hall_history.proofs.Asking.{CallFits, NextFits, hears_stays, next_fits, next_stays, stays_at, stays_fits}
use Rattle.hall_history.proofs.Rooming.{gets_entry, is_same, one_entry, others_stay, same_length, same_number}

pub both_same : {A : Type 0} (b : Bool) (x : A) → (if b then x else x) ≡ x
both_same true x = refl
both_same false x = refl

plain_after : {X : Type 0} (made : RoomCall X) → IsPlain made → (before : Bool) (told : RoomReply) → attached_after before made told ≡ before
plain_after (call.Create game seats seed) h before told = refl
plain_after (call.Join serial seat name key) h before told = refl
plain_after (call.Rename serial seat key name) h before told = refl
plain_after (call.Leave serial seat key) h before told = refl
plain_after (call.Clear serial) h before told = absurd h
plain_after (call.Look serial) h before told = refl
plain_after (call.Attach serial viewer protocol) h before told = absurd h
plain_after (call.Submit s) h before told = refl
plain_after call.Take h before told = absurd h
plain_after call.Detach h before told = absurd h

-- a reply for which there is no memory tells of no attaching
unheard_attached : (told : RoomReply) → is_attached_reply (unheard told) ≡ is_attached_reply told
unheard_attached (told_as.Created serial) = refl
unheard_attached told_as.Joined = refl
unheard_attached told_as.Renamed = refl
unheard_attached told_as.Left = refl
unheard_attached told_as.Cleared = refl
unheard_attached (told_as.Looked row) = refl
unheard_attached told_as.Attached = refl
unheard_attached (told_as.Verdict v) = refl
unheard_attached (told_as.Taken bytes end) = refl
unheard_attached told_as.Detached = refl
unheard_attached told_as.Busy = refl
unheard_attached told_as.BadSeats = refl
unheard_attached told_as.NoStart = refl
unheard_attached told_as.NoMatch = refl
unheard_attached told_as.NoSeat = refl
unheard_attached told_as.SeatTaken = refl
unheard_attached told_as.BadName = refl
unheard_attached told_as.AlreadyAttached = refl
unheard_attached told_as.Unauthorized = refl
unheard_attached told_as.NotAttached = refl
unheard_attached told_as.NoMemory = refl

told_attached : (luck : Luck) (told : RoomReply) → is_attached_reply (told_by luck told) ≡ is_attached_reply told
told_attached luck told = by (runs_out luck)
  where
    by : (b : Bool) → is_attached_reply (if b then unheard told else told) ≡ is_attached_reply told
    by true = unheard_attached told
    by false = refl

after_attached : (before : Bool) (told : RoomReply) → after_attaching before told ≡ (if is_attached_reply told then true else before)
after_attached before (told_as.Created serial) = refl
after_attached before told_as.Joined = refl
after_attached before told_as.Renamed = refl
after_attached before told_as.Left = refl
after_attached before told_as.Cleared = refl
after_attached before (told_as.Looked row) = refl
after_attached before told_as.Attached = refl
after_attached before (told_as.Verdict v) = refl
after_attached before (told_as.Taken bytes end) = refl
after_attached before told_as.Detached = refl
after_attached before told_as.Busy = refl
after_attached before told_as.BadSeats = refl
after_attached before told_as.NoStart = refl
after_attached before told_as.NoMatch = refl
after_attached before told_as.NoSeat = refl
after_attached before told_as.SeatTaken = refl
after_attached before told_as.BadName = refl
after_attached before told_as.AlreadyAttached = refl
after_attached before told_as.Unauthorized = refl
after_attached before told_as.NotAttached = refl
after_attached before told_as.NoMemory = refl

-- who is attached where once a pass is attached to a room, or to none
abbrev pub seat_at : ℕ → (ℕ → Option ℕ) → Option ℕ → ℕ → ℕ → Bool
seat_at pass at o q r = is_at (attached_to pass o at q) r

pub same_at : (at : ℕ → Option ℕ) (pass : ℕ) (o : Option ℕ) (q : ℕ) → o ≡ at pass → attached_to pass o at q ≡ at q
same_at at pass o q h = by (pass == q) refl
  where
    by : (b : Bool) → (pass == q) ≡ b → (if b then o else at q) ≡ at q
    by true e = h ∙ ap at (same_number pass q e)
    by false e = refl

module _ {X G : Type 0} (rules : X → Rules G) where
  -- ---- what one entry makes of who is attached

  pub plain_entry : (room : ℕ) (h : History X) (pass q : ℕ) (made : RoomCall X) (b : Bool) → IsPlain made
      → is_attached rules room (entry pass made b ∷ h) q ≡ is_attached rules room h q
  plain_entry room h pass q made true p = want_presence rules room h pass q made
  plain_entry room h pass q made false p =
      presence rules room h pass q made
      ∙ ap (λ x. if pass == q then x else is_attached rules room h q) (plain_after made p (is_attached rules room h q) (reply rules room h (entry pass made false)))
      ∙ both_same (pass == q) (is_attached rules room h q)

  pub plain_rooms : (rooms : Rooms X) (room : ℕ) (pass : ℕ) (made : RoomCall X) (b : Bool) → IsPlain made → (q r : ℕ)
      → is_attached rules r (history_of (with_entry rooms room (entry pass made b)) r) q ≡ is_attached rules r (history_of rooms r) q
  plain_rooms rooms room pass made b p q r = by (one_entry rooms room (entry pass made b) r)
    where
      by : (history_of (with_entry rooms room (entry pass made b)) r ≡ history_of rooms r)
          ⊎ ((room ≡ r) × (history_of (with_entry rooms room (entry pass made b)) r ≡ entry pass made b ∷ history_of rooms r))
          → is_attached rules r (history_of (with_entry rooms room (entry pass made b)) r) q ≡ is_attached rules r (history_of rooms r) q
      by (inl e) = ap (λ h. is_attached rules r h q) e
      by (inr e) = ap (λ h. is_attached rules r h q) e.1 ∙ plain_entry r (history_of rooms r) pass q made b p

  starved_reply : (room : ℕ) (h : History X) (pass : ℕ) (made : RoomCall X) → is_attached_reply (reply rules room h (entry pass made true)) ≡ false
  unfolding reply
  starved_reply room h pass made = refl

  module _ (room : ℕ) (h : History X) (pass : ℕ) (serial : ℕ) (viewer : Viewer) (protocol : Protocol) where
    abbrev attach : RoomCall X
    attach = call.Attach serial viewer protocol

    attach_entry : (q : ℕ) (b : Bool)
        → is_attached rules room (entry pass attach b ∷ h) q
        ≡ (if pass == q then (if is_attached_reply (reply rules room h (entry pass attach b)) then true else is_attached rules room h q) else is_attached rules room h q)
    attach_entry q true =
        want_presence rules room h pass q attach
        ∙ sym (both_same (pass == q) (is_attached rules room h q))
        ∙ ap (λ x. if pass == q then (if x then true else is_attached rules room h q) else is_attached rules room h q) (sym (starved_reply room h pass attach))
    attach_entry q false =
        presence rules room h pass q attach
        ∙ ap (λ x. if pass == q then x else is_attached rules room h q) (after_attached (is_attached rules room h q) (reply rules room h (entry pass attach false)))

  -- ---- a request of one pass

  module _ (pass : ℕ) (at : ℕ → Option ℕ) where
    abbrev pub Placed : Rooms X → Option ℕ → Type 0
    Placed rooms o = (q r : ℕ) → is_attached rules r (history_of rooms r) q ≡ seat_at pass at o q r

    plain_placed : (rooms : Rooms X) (room : ℕ) (made : RoomCall X) (b : Bool) (o : Option ℕ) → IsPlain made → Placed rooms o → Placed (with_entry rooms room (entry pass made b)) o
    plain_placed rooms room made b o p h q r = plain_rooms rooms room pass made b p q r ∙ h q r

    module _ (rooms : Rooms X) (room : ℕ) (b : Bool) (serial : ℕ) (viewer : Viewer) (protocol : Protocol) (there : room < length rooms) (free : Placed rooms None) where
      abbrev e : Entry (RoomCall X)
      e = entry pass (call.Attach serial viewer protocol) b

      abbrev hears_attached : Bool
      hears_attached = is_attached_reply (reply_in rules rooms room e)

      attached_there : (q : ℕ) → is_attached rules room (history_of (with_entry rooms room e) room) q
          ≡ (if pass == q then (if hears_attached then true else is_attached rules room (history_of rooms room) q) else is_attached rules room (history_of rooms room) q)
      attached_there q = ap (λ h. is_attached rules room h q) (gets_entry rooms room e there) ∙ attach_entry room (history_of rooms room) pass serial viewer protocol q b

      abbrev sits : Bool → Option ℕ
      sits true = Some room
      sits false = None

      here : (q : ℕ) (a c : Bool) → (pass == q) ≡ c
          → (if c then (if a then true else is_attached rules room (history_of rooms room) q) else is_attached rules room (history_of rooms room) q)
          ≡ is_at (if c then sits a else at q) room
      here q true true f = sym (is_same room)
      here q false true f = free q room ∙ ap (λ x. is_at (if x then None else at q) room) f
      here q a false f = free q room ∙ ap (λ x. is_at (if x then None else at q) room) f

      elsewhere : (q r : ℕ) (a c : Bool) → (room == r) ≡ false → (pass == q) ≡ c → is_attached rules r (history_of rooms r) q ≡ is_at (if c then sits a else at q) r
      elsewhere q r true true n f = free q r ∙ ap (λ x. is_at (if x then None else at q) r) f ∙ sym n
      elsewhere q r false true n f = free q r ∙ ap (λ x. is_at (if x then None else at q) r) f
      elsewhere q r a false n f = free q r ∙ ap (λ x. is_at (if x then None else at q) r) f

      attach_placed : (a : Bool) → hears_attached ≡ a → Placed (with_entry rooms room e) (sits a)
      attach_placed a f q r = by (room == r) refl
        where
          by : (n : Bool) → (room == r) ≡ n → is_attached rules r (history_of (with_entry rooms room e) r) q ≡ seat_at pass at (sits a) q r
          by true n =
              subst (λ x. is_attached rules x (history_of (with_entry rooms room e) x) q ≡ seat_at pass at (sits a) q x) (same_number room r n)
              (attached_there q
              ∙ ap (λ x. if pass == q then (if x then true else is_attached rules room (history_of rooms room) q) else is_attached rules room (history_of rooms room) q) f
              ∙ here q a (pass == q) refl)
          by false n = ap (λ h. is_attached rules r h q) (others_stay rooms room r e n) ∙ elsewhere q r a (pass == q) n refl

module _ {X G : Type 0} (named : List ℕ → Option X) (rules : X → Rules G) (pass : ℕ) (at : ℕ → Option ℕ) where
  -- a call, its entry and what the reply makes of the request
  step_placed : (c : Core X) (room : ℕ) (made : RoomCall X) (request : Request) (s : Lucky X) → length s.rooms ≡ c.rooms
      → CallFits c.rooms c.at room made request → Placed rules pass at s.rooms c.at
      → Placed rules pass at (ask_rooms rules pass room made s).1.rooms (moved c (next named c.rooms request (ask_rooms rules pass room made s).0)).at
  step_placed c room made (Creating game seats seed r) s n f h =
      subst (λ o. Placed rules pass at (ask_rooms rules pass room made s).1.rooms o) (sym (stays_at c.rooms c.at c _ (next_stays named c.rooms c.at (Creating game seats seed r) (ask_rooms rules pass room made s).0 tt)))
      (plain_placed rules pass at s.rooms room made (entry_by pass made s.luck).starved c.at f h)
  step_placed c room made (Listing game rows r) s n f h =
      subst (λ o. Placed rules pass at (ask_rooms rules pass room made s).1.rooms o) (sym (stays_at c.rooms c.at c _ (next_stays named c.rooms c.at (Listing game rows r) (ask_rooms rules pass room made s).0 tt)))
      (plain_placed rules pass at s.rooms room made (entry_by pass made s.luck).starved c.at f h)
  step_placed c room made Looking s n f h = plain_placed rules pass at s.rooms room made (entry_by pass made s.luck).starved c.at f h
  step_placed c room made (Joining name seat key) s n f h = plain_placed rules pass at s.rooms room made (entry_by pass made s.luck).starved c.at f h
  step_placed c room made (Renaming name seat) s n f h = plain_placed rules pass at s.rooms room made (entry_by pass made s.luck).starved c.at f h
  step_placed c room made (Leaving name seat) s n f h = plain_placed rules pass at s.rooms room made (entry_by pass made s.luck).starved c.at f h
  step_placed c room made (Acting ticket) s n f h =
      subst (λ o. Placed rules pass at (ask_rooms rules pass room made s).1.rooms o) (sym (stays_at c.rooms c.at c _ (next_stays named c.rooms c.at (Acting ticket) (ask_rooms rules pass room made s).0 tt)))
      (plain_placed rules pass at s.rooms room made (entry_by pass made s.luck).starved c.at f h)
  step_placed c room made (Syncing asked) s n f h =
      subst (λ (m : RoomCall X). Placed rules pass at (with_entry s.rooms room (entry_by pass m s.luck)) (moved c (after_attach asked (told_by s.luck (reply_in rules s.rooms room (entry_by pass m s.luck))))).at)
      (sym f.0.3)
      (subst (λ r. Placed rules pass at (with_entry s.rooms room (entry_by pass attach s.luck)) (moved c (after_attach r (told_by s.luck (reply_in rules s.rooms room (entry_by pass attach s.luck))))).at) f.1
      (by (is_attached_reply (told_by s.luck (reply_in rules s.rooms room (entry_by pass attach s.luck)))) refl))
    where
      attach : RoomCall X
      attach = call.Attach f.0.0 f.0.1 f.0.2

      there : room < length s.rooms
      there = subst (λ m. room < m) (sym n) f.2

      free : Placed rules pass at s.rooms None
      free = subst (λ o. Placed rules pass at s.rooms o) f.3 h

      b : Bool
      b = (entry_by pass attach s.luck).starved

      by : (a : Bool) → is_attached_reply (told_by s.luck (reply_in rules s.rooms room (entry_by pass attach s.luck))) ≡ a
          → Placed rules pass at (with_entry s.rooms room (entry_by pass attach s.luck)) (moved c (if a then Attaches room else Says (undone None (told_by s.luck (reply_in rules s.rooms room (entry_by pass attach s.luck)))))).at
      by true e = attach_placed rules pass at s.rooms room b f.0.0 f.0.1 f.0.2 there free true (sym (told_attached s.luck (reply_in rules s.rooms room (entry_by pass attach s.luck))) ∙ e)
      by false e =
          subst (λ o. Placed rules pass at (with_entry s.rooms room (entry_by pass attach s.luck)) o) (sym f.3)
          (attach_placed rules pass at s.rooms room b f.0.0 f.0.1 f.0.2 there free false (sym (told_attached s.luck (reply_in rules s.rooms room (entry_by pass attach s.luck))) ∙ e))

  run_placed : (n : ℕ) (c : Core X) (x : Next X) (s : Lucky X) → length s.rooms ≡ c.rooms → NextFits c.rooms c.at x → Placed rules pass at s.rooms (moved c x).at
      → Placed rules pass at (run named (ask_rooms rules pass) n (moved c x) s).1.rooms (run named (ask_rooms rules pass) n (moved c x) s).0.at
  run_placed zero c x s l f h = h
  run_placed (suc n) c (Says a) s l f h = h
  run_placed (suc n) c (Attaches room) s l f h = h
  run_placed (suc n) c Silent s l f h = h
  run_placed (suc n) c (Calls room made request) s l f h =
      let told = ask_rooms rules pass room made s in
      let y = next named c.rooms request told.0 in
      subst (λ d. Placed rules pass at (run named (ask_rooms rules pass) n d told.1).1.rooms (run named (ask_rooms rules pass) n d told.1).0.at) (sym (moved_over c room made request y))
      (run_placed n c y told.1 (same_length s.rooms room (entry_by pass made s.luck) ∙ l) (next_fits named c.rooms c.at request told.0) (step_placed c room made request s l f h))

module _ {X G : Type 0} (named : List ℕ → Option X) (rules : X → Rules G) (tape : ℕ → List ℕ) where
  placed_as : (h : Hall X) (pass : ℕ) → IsPlaced rules h → Placed rules pass h.at h.rooms (h.at pass)
  placed_as h pass p q r = p q r ∙ ap (λ o. is_at o r) (sym (same_at h.at pass (h.at pass) q refl))

  runs_placed : (luck : Luck) (h : Hall X) (pass : ℕ) (read : Result ClientMsg Fault) → IsPlaced rules h
      → Placed rules pass h.at (runs named rules luck pass h.rooms (begun named tape h pass read)).1.rooms (runs named rules luck pass h.rooms (begun named tape h pass read)).0.at
  runs_placed luck h pass read p =
      let c = core_of h pass in
      let x = hears named c.rooms c.at read (tape h.place) h.seed in
      let f = hears_stays named c.rooms c.at read (tape h.place) h.seed in
      run_placed named rules pass h.at (length h.rooms + 1) c x (record { rooms = h.rooms; luck = luck }) refl (stays_fits c.rooms c.at x f)
      (subst (λ o. Placed rules pass h.at h.rooms o) (sym (stays_at c.rooms c.at c x f)) (placed_as h pass p))

  request_placed : (mark : Mark) (h : Hall X) (pass : ℕ) (read : Result ClientMsg Fault) → IsPlaced rules h
      → Placed rules pass h.at (request named rules tape mark h pass read).1.rooms (request named rules tape mark h pass read).0.at
  request_placed Served h pass read p = runs_placed None h pass read p
  request_placed Unread h pass read p = placed_as h pass p
  request_placed (Starved zero there) h pass read p = placed_as h pass p
  request_placed (Starved (suc n) there) h pass read p = runs_placed (Some (suc n, there)) h pass read p

  pub line_placed : (mark : Mark) (h : Hall X) (pass : ℕ) (line : List ℕ) → IsPlaced rules h → IsPlaced rules (after_line named rules tape mark h pass line).0
  line_placed mark h pass line p = request_placed mark h pass (client_read line) p

module _ {X G : Type 0} (rules : X → Rules G) where
  -- only a room that is there has anybody attached
  pub in_range : (number : ℕ) (rooms : Rooms X) (room pass : ℕ) → is_attached rules number (history_of rooms room) pass ≡ true → room < length rooms
  in_range number [] room pass e = absurd (true_false e)
    where
      true_false : false ≡ true → ⊥
      true_false h = cc
  in_range number (h ∷ rooms) zero pass e = omega arith
  in_range number (h ∷ rooms) (suc room) pass e = omega (arith, in_range number rooms room pass e)

  module _ (h : Hall X) (pass room : ℕ) (made : RoomCall X) (p : IsPlaced rules h) (sits : h.at pass ≡ Some room) where
    abbrev told : RoomReply
    told = reply_in rules h.rooms room (entry pass made false)

    pub is_here : is_attached rules room (history_of h.rooms room) pass ≡ true
    is_here = p pass room ∙ ap (λ o. is_at o room) sits ∙ is_same room

    attached_now : (q : ℕ) → is_attached rules room (history_of (with_entry h.rooms room (entry pass made false)) room) q
        ≡ (if pass == q then attached_after (is_attached rules room (history_of h.rooms room) q) made told else is_attached rules room (history_of h.rooms room) q)
    attached_now q =
        ap (λ x. is_attached rules room x q) (gets_entry h.rooms room (entry pass made false) (in_range room h.rooms room pass is_here))
        ∙ presence rules room (history_of h.rooms room) pass q made

    stays_if : (b : Bool) → b ≡ is_at (if b then Some room else None) room
    stays_if true = sym (is_same room)
    stays_if false = refl

    leaves_if : (b : Bool) (r : ℕ) → (room == r) ≡ false → false ≡ is_at (if b then Some room else None) r
    leaves_if true r n = sym n
    leaves_if false r n = refl

    freed_here : (q : ℕ) (b : Bool) → (pass == q) ≡ b
        → (if b then attached_after (is_attached rules room (history_of h.rooms room) q) made told else is_attached rules room (history_of h.rooms room) q)
        ≡ is_at (if b then room_after room made told else h.at q) room
    freed_here q true e =
        ap (λ x. attached_after x made told) (ap (λ x. is_attached rules room (history_of h.rooms room) x) (sym (same_number pass q e)) ∙ is_here)
        ∙ stays_if (attached_after true made told)
    freed_here q false e = p q room

    freed_elsewhere : (q r : ℕ) (b : Bool) → (room == r) ≡ false → (pass == q) ≡ b
        → is_attached rules r (history_of h.rooms r) q ≡ is_at (if b then room_after room made told else h.at q) r
    freed_elsewhere q r true n e =
        p q r ∙ ap (λ o. is_at o r) (ap h.at (sym (same_number pass q e)) ∙ sits) ∙ n ∙ leaves_if (attached_after true made told) r n
    freed_elsewhere q r false n e = p q r

    freed_placed : IsPlaced rules (freed h pass made room told).0
    freed_placed q r = by (room == r) refl
      where
        by : (n : Bool) → (room == r) ≡ n → is_attached rules r (history_of (with_entry h.rooms room (entry pass made false)) r) q ≡ is_at (attached_to pass (room_after room made told) h.at q) r
        by true n =
            subst (λ x. is_attached rules x (history_of (with_entry h.rooms room (entry pass made false)) x) q ≡ is_at (attached_to pass (room_after room made told) h.at q) x) (same_number room r n)
            (attached_now q ∙ freed_here q (pass == q) refl)
        by false n = ap (λ x. is_attached rules r x q) (others_stay h.rooms room r (entry pass made false) n) ∙ freed_elsewhere q r (pass == q) n refl

  frees_at_placed : (h : Hall X) (pass : ℕ) (made : RoomCall X) (o : Option ℕ) → h.at pass ≡ o → IsPlaced rules h → IsPlaced rules (frees_at rules h pass made o).0
  frees_at_placed h pass made None e p = p
  frees_at_placed h pass made (Some room) e p = freed_placed h pass room made p e

  pub frees_placed : (h : Hall X) (pass : ℕ) (made : RoomCall X) → IsPlaced rules h → IsPlaced rules (frees rules h pass made).0
  frees_placed h pass made p = frees_at_placed h pass made (h.at pass) refl p

  pub none_there : (n room : ℕ) → history_of {X = X} (replicate n []) room ≡ []
  none_there zero room = refl
  none_there (suc n) zero = refl
  none_there (suc n) (suc room) = none_there n room

  pub empty_placed : (n : ℕ) → IsPlaced rules (new_hall n)
  empty_placed n q r = ap (λ h. is_attached rules r h q) (none_there n r)
