-- A create is made in the least room that isn't busy, and refused as full just where every room is.
use Rattle.std.proofs.Common.{◌≡◌, ◌≤◌, ◌<◌, ℕ, zero, suc, ◌+◌, ◌==◌, Bool, true, false, nat_lt, if◌then◌else◌, List, ◌∷◌, length, Option, Some, None, Ok, refl, sym, ap, ◌∙◌, subst, arith}
use Rattle.std.proofs.lemmas.Bool.Decides.{nat_tests}
use Rattle.game_trait.specs.Rules.{Rules}
use Rattle.room_object.specs.Entry.{Entry, entry}
use Rattle.room_history.specs.Others.{KeepsAll}
use Rattle.room_history.specs.Room.{reply, room_of}
use Rattle.room_history.specs.declared.call.RoomCall.{RoomCall}
use Rattle.room_history.specs.declared.call.RoomCall.TheVariants as call
use Rattle.room_history.specs.declared.reply.RoomReply.{RoomReply}
use Rattle.room_history.specs.declared.reply.RoomReply.TheVariants as told_as
use Rattle.wire_json.specs.declared.client.ClientMsg.TheVariants as line
use Rattle.wire_json.specs.declared.refusal.Refusal.TheVariants.{Full}
use Rattle.game_hall.specs.Core.{Core, moved}
use Rattle.game_hall.specs.Requests.{created_by, is_busy, makes, next, refuses, tries}
use Rattle.game_hall.specs.Run.{run}
use Rattle.game_hall.specs.Words.{seed_of}
use Rattle.game_hall.specs.declared.answer.Answer.{Answer}
use Rattle.game_hall.specs.declared.answer.Answer.TheVariants as answer
use Rattle.game_hall.specs.declared.next.Next.TheVariants.{Says}
use Rattle.game_hall.specs.declared.request.Request.TheVariants.{Creating}
use Rattle.game_hall.proofs.Running.{moved_over}
use Rattle.hall_history.specs.Creating.{ChangesOne, create_done, create_entry}
use Rattle.hall_history.specs.Hall.{Hall, core_of, request}
use Rattle.hall_history.specs.Mark.{Lucky, Served, ask_rooms}
use Rattle.hall_history.specs.Rooms.{Rooms, history_of, reply_in, with_entry}
use Rattle.hall_history.proofs.Keeping.{IsIdle, both_all, entry_keeps, keeps_one, same_all}
use Rattle.hall_history.proofs.Rooming.{Unasked, gets_entry, others_stay, same_length, still_unasked}

true_false : false ≡ true → ⊥
true_false e = cc

pub below : (m n k : ℕ) → n ≡ m + suc k → nat_lt m n ≡ true
below m n k h = grind (arith, nat_tests)

pub not_below : (m n : ℕ) → n ≡ m + 0 → nat_lt m n ≡ false
not_below m n h = grind (arith, nat_tests)

busy_is : (told : RoomReply) → is_busy told ≡ true → told ≡ told_as.Busy
busy_is (told_as.Created serial) e = absurd (true_false e)
busy_is told_as.Joined e = absurd (true_false e)
busy_is told_as.Renamed e = absurd (true_false e)
busy_is told_as.Left e = absurd (true_false e)
busy_is told_as.Cleared e = absurd (true_false e)
busy_is (told_as.Looked row) e = absurd (true_false e)
busy_is told_as.Attached e = absurd (true_false e)
busy_is (told_as.Verdict v) e = absurd (true_false e)
busy_is (told_as.Taken bytes end) e = absurd (true_false e)
busy_is told_as.Detached e = absurd (true_false e)
busy_is told_as.Busy e = refl
busy_is told_as.BadSeats e = absurd (true_false e)
busy_is told_as.NoStart e = absurd (true_false e)
busy_is told_as.NoMatch e = absurd (true_false e)
busy_is told_as.NoSeat e = absurd (true_false e)
busy_is told_as.SeatTaken e = absurd (true_false e)
busy_is told_as.BadName e = absurd (true_false e)
busy_is told_as.AlreadyAttached e = absurd (true_false e)
busy_is told_as.Unauthorized e = absurd (true_false e)
busy_is told_as.NotAttached e = absurd (true_false e)
busy_is told_as.NoMemory e = absurd (true_false e)

-- another reply is answered otherwise
not_full : (room : ℕ) (told : RoomReply) → is_busy told ≡ false → created_by room told ≡ answer.Refused Full → ⊥
not_full room (told_as.Created serial) e f = cc
not_full room told_as.Joined e f = cc
not_full room told_as.Renamed e f = cc
not_full room told_as.Left e f = cc
not_full room told_as.Cleared e f = cc
not_full room (told_as.Looked row) e f = cc
not_full room told_as.Attached e f = cc
not_full room (told_as.Verdict v) e f = cc
not_full room (told_as.Taken bytes end) e f = cc
not_full room told_as.Detached e f = cc
not_full room told_as.Busy e f = true_false (sym e)
not_full room told_as.BadSeats e f = cc
not_full room told_as.NoStart e f = cc
not_full room told_as.NoMatch e f = cc
not_full room told_as.NoSeat e f = cc
not_full room told_as.SeatTaken e f = cc
not_full room told_as.BadName e f = cc
not_full room told_as.AlreadyAttached e f = cc
not_full room told_as.Unauthorized e f = cc
not_full room told_as.NotAttached e f = cc
not_full room told_as.NoMemory e f = cc

same_some : {A : Type 0} (x y : A) → Some x ≡ Some y → x ≡ y
same_some x y e = cc

module _ {X G : Type 0} (named : List ℕ → Option X) (rules : X → Rules G) (pass : ℕ) (game : List ℕ) (x : X) (found : named game ≡ Some x) (seats : ℕ) (seed : List ℕ) where
  abbrev made : Entry (RoomCall X)
  made = entry pass (call.Create x seats seed) false

  abbrev with_rooms : Rooms X → Lucky X
  with_rooms rooms = record { rooms = rooms; luck = None }

  -- the next room is asked, and what its reply makes of the request
  asks_one : (k at : ℕ) (c : Core X) (rooms : Rooms X) → c.rooms ≡ at + suc k
      → run named (ask_rooms rules pass) (suc (suc k)) (moved c (tries named c.rooms game seats seed at)) (with_rooms rooms)
      ≡ run named (ask_rooms rules pass) (suc k) (moved c (next named c.rooms (Creating game seats seed at) (reply_in rules rooms at made))) (with_rooms (with_entry rooms at made))
  asks_one k at c rooms l =
      ap (λ b. run named (ask_rooms rules pass) (suc (suc k)) (moved c (if b then makes (named game) game seats seed at else refuses Full)) (with_rooms rooms)) (below at c.rooms k l)
      ∙ ap (λ o. run named (ask_rooms rules pass) (suc (suc k)) (moved c (makes o game seats seed at)) (with_rooms rooms)) found
      ∙ ap (λ d. run named (ask_rooms rules pass) (suc k) d (with_rooms (with_entry rooms at made)))
      (moved_over c at (call.Create x seats seed) (Creating game seats seed at) (next named c.rooms (Creating game seats seed at) (reply_in rules rooms at made)))

  module _ (old : Rooms X) (c : Core X) where
    same_reply : (rooms : Rooms X) (at : ℕ) → Unasked old rooms at → reply_in rules rooms at made ≡ reply_in rules old at made
    same_reply rooms at u = ap (λ h. reply rules at h made) (u at (omega arith))

    abbrev said_after : ℕ → ℕ → Rooms X → Option Answer
    said_after k at rooms = (run named (ask_rooms rules pass) (suc k) (moved c (tries named c.rooms game seats seed at)) (with_rooms rooms)).0.said

    only_busy : (k at : ℕ) (rooms : Rooms X) → c.rooms ≡ at + k → Unasked old rooms at → said_after k at rooms ≡ Some (answer.Refused Full)
        → (r : ℕ) → at ≤ r → r < c.rooms → is_busy (reply_in rules old r made) ≡ true
    only_busy zero at rooms l u e r low high = absurd (omega (arith, l, low, high))
    only_busy (suc k) at rooms l u e r low high = by (is_busy (reply_in rules rooms at made)) refl
        (λ f. only_busy k (at + 1) (with_entry rooms at made) (l ∙ omega arith) (still_unasked old rooms at made u) f r)
      where
        after : Bool → Option Answer
        after b = (run named (ask_rooms rules pass) (suc k) (moved c (if b then tries named c.rooms game seats seed (at + 1) else Says (created_by at (reply_in rules rooms at made)))) (with_rooms (with_entry rooms at made))).0.said

        says : (b : Bool) → is_busy (reply_in rules rooms at made) ≡ b → after b ≡ Some (answer.Refused Full)
        says b q = ap (λ b. after b) (sym q) ∙ sym (ap (λ d. d.0.said) (asks_one k at c rooms l)) ∙ e

        here : (n : Bool) → (at == r) ≡ n → is_busy (reply_in rules rooms at made) ≡ true → (at + 1 ≤ r → is_busy (reply_in rules old r made) ≡ true) → is_busy (reply_in rules old r made) ≡ true
        here true n q later = subst (λ y. is_busy (reply_in rules old y made) ≡ true) (grind (arith, nat_tests, n)) (ap is_busy (sym (same_reply rooms at u)) ∙ q)
        here false n q later = later (grind (arith, nat_tests, n, low))

        by : (b : Bool) → is_busy (reply_in rules rooms at made) ≡ b
            → (said_after k (at + 1) (with_entry rooms at made) ≡ Some (answer.Refused Full) → at + 1 ≤ r → r < c.rooms → is_busy (reply_in rules old r made) ≡ true)
            → is_busy (reply_in rules old r made) ≡ true
        by true q later = here (at == r) refl q (λ m. later (says true q) m high)
        by false q later = absurd (not_full at (reply_in rules rooms at made) q (same_some (created_by at (reply_in rules rooms at made)) (answer.Refused Full) (says false q)))

    busy_full : (k at : ℕ) (rooms : Rooms X) → c.rooms ≡ at + k → Unasked old rooms at → ((r : ℕ) → at ≤ r → r < c.rooms → reply_in rules old r made ≡ told_as.Busy)
        → said_after k at rooms ≡ Some (answer.Refused Full)
    busy_full zero at rooms l u all =
        ap (λ b. (run named (ask_rooms rules pass) 1 (moved c (if b then makes (named game) game seats seed at else refuses Full)) (with_rooms rooms)).0.said) (not_below at c.rooms l)
    busy_full (suc k) at rooms l u all =
        ap (λ d. d.0.said) (asks_one k at c rooms l)
        ∙ ap (λ b. (run named (ask_rooms rules pass) (suc k) (moved c (if b then tries named c.rooms game seats seed (at + 1) else Says (created_by at (reply_in rules rooms at made)))) (with_rooms (with_entry rooms at made))).0.said)
        (ap is_busy (same_reply rooms at u ∙ all at (omega arith) (omega (arith, l))))
        ∙ busy_full k (at + 1) (with_entry rooms at made) (l ∙ omega arith) (still_unasked old rooms at made u) (λ r low high. all r (omega (arith, low)) high)

    -- ---- the least room that isn't busy

    module _ (room : ℕ) (free : is_busy (reply_in rules old room made) ≡ false) where
      abbrev ran : ℕ → ℕ → Rooms X → Core X × Lucky X
      ran k at rooms = run named (ask_rooms rules pass) (suc k) (moved c (tries named c.rooms game seats seed at)) (with_rooms rooms)

      -- what a room's reply makes of the request
      abbrev ran_on : ℕ → ℕ → Rooms X → Bool → Core X × Lucky X
      ran_on k at rooms busy =
          run named (ask_rooms rules pass) (suc k) (moved c (if busy then tries named c.rooms game seats seed (at + 1) else Says (created_by at (reply_in rules rooms at made))))
          (with_rooms (with_entry rooms at made))

      -- that room answers and has the create, and no other has changed
      abbrev IsMade : Rooms X → Core X × Lucky X → Type 0
      IsMade rooms done = (done.0.said ≡ Some (created_by room (reply_in rules old room made)))
          × (history_of done.1.rooms room ≡ made ∷ history_of old room)
          × ((r : ℕ) → (room == r) ≡ false → KeepsAll (room_of rules r (history_of rooms r)) (room_of rules r (history_of done.1.rooms r)))

      here_made : (k : ℕ) (rooms : Rooms X) → c.rooms ≡ room + suc k → length rooms ≡ c.rooms → Unasked old rooms room → IsMade rooms (ran (suc k) room rooms)
      here_made k rooms l n u =
          subst (λ d. IsMade rooms d) (sym (asks_one k room c rooms l ∙ ap (λ b. ran_on k room rooms b) (ap is_busy (same_reply rooms room u) ∙ free))) (
            ap (λ told. Some (created_by room told)) (same_reply rooms room u),
            gets_entry rooms room made (omega (arith, l, n)) ∙ ap (λ h. made ∷ h) (u room (omega arith)),
            λ r e. subst (λ h. KeepsAll (room_of rules r (history_of rooms r)) (room_of rules r h)) (sym (others_stay rooms room r made e)) (same_all (room_of rules r (history_of rooms r))),
          )

      passed_over : (rooms : Rooms X) (at : ℕ) → reply_in rules rooms at made ≡ told_as.Busy → (r : ℕ)
          → KeepsAll (room_of rules r (history_of rooms r)) (room_of rules r (history_of (with_entry rooms at made) r))
      passed_over rooms at e =
          keeps_one rules rooms at made (entry_keeps rules at (history_of rooms at) pass (call.Create x seats seed) false (subst (λ told. IsIdle told) (sym e) tt))

      least_made : (d k at : ℕ) (rooms : Rooms X) → room ≡ at + d → c.rooms ≡ at + k → room < c.rooms → length rooms ≡ c.rooms → Unasked old rooms at
          → ((r : ℕ) → at ≤ r → r < room → reply_in rules old r made ≡ told_as.Busy) → IsMade rooms (ran k at rooms)
      least_made zero zero at rooms e l there n u lower = absurd (omega (arith, e, l, there))
      least_made zero (suc k) at rooms e l there n u lower =
          subst (λ r. IsMade rooms (ran (suc k) r rooms)) (omega (arith, e)) (here_made k rooms (omega (arith, e, l)) n (λ r low. u r (omega (arith, e, low))))
      least_made (suc d) zero at rooms e l there n u lower = absurd (omega (arith, e, l, there))
      least_made (suc d) (suc k) at rooms e l there n u lower =
          let after : Rooms X = with_entry rooms at made in
          let busy : reply_in rules rooms at made ≡ told_as.Busy = same_reply rooms at u ∙ lower at (omega arith) (omega (arith, e)) in
          let rest : IsMade after (ran k (at + 1) after) =
          least_made d k (at + 1) after (omega (arith, e)) (l ∙ omega arith) there (same_length rooms at made ∙ n) (still_unasked old rooms at made u)
          (λ r low high. lower r (omega (arith, low)) high) in
          subst (λ m. IsMade rooms m) (sym (asks_one k at c rooms l ∙ ap (λ b. ran_on k at rooms b) (ap is_busy busy))) (
            rest.0,
            rest.1,
            λ r f. both_all (room_of rules r (history_of rooms r)) (room_of rules r (history_of after r)) (room_of rules r (history_of (ran k (at + 1) after).1.rooms r))
                (passed_over rooms at busy r) (rest.2 r f),
          )

module _ {X G : Type 0} (named : List ℕ → Option X) (rules : X → Rules G) (tape : ℕ → List ℕ) where
  pub full_only : (h : Hall X) (pass : ℕ) (game : List ℕ) (x : X) (seats : ℕ) → named game ≡ Some x
      → (request named rules tape Served h pass (Ok (line.Create game seats))).0.said ≡ Some (answer.Refused Full)
      → (room : ℕ) → room < length h.rooms
      → reply_in rules h.rooms room (entry pass (call.Create x seats (seed_of h.seed (tape h.place))) false) ≡ told_as.Busy
  full_only h pass game x seats found e room there =
      busy_is (reply_in rules h.rooms room (entry pass (call.Create x seats (seed_of h.seed (tape h.place))) false))
      (only_busy named rules pass game x found seats (seed_of h.seed (tape h.place)) h.rooms (core_of h pass) (length h.rooms) 0 h.rooms from_zero (λ r l. refl)
      (sym (ap (λ n. (run named (ask_rooms rules pass) n (moved (core_of h pass) (tries named (length h.rooms) game seats (seed_of h.seed (tape h.place)) 0)) (record { rooms = h.rooms; luck = None })).0.said) one_more) ∙ e)
      room (omega arith) there)
    where
      one_more : length h.rooms + 1 ≡ suc (length h.rooms)
      one_more = omega arith

      from_zero : length h.rooms ≡ 0 + length h.rooms
      from_zero = omega arith

  pub full_where : (h : Hall X) (pass : ℕ) (game : List ℕ) (x : X) (seats : ℕ) → named game ≡ Some x
      → ((room : ℕ) → room < length h.rooms → reply_in rules h.rooms room (entry pass (call.Create x seats (seed_of h.seed (tape h.place))) false) ≡ told_as.Busy)
      → (request named rules tape Served h pass (Ok (line.Create game seats))).0.said ≡ Some (answer.Refused Full)
  full_where h pass game x seats found all =
      ap (λ n. (run named (ask_rooms rules pass) n (moved (core_of h pass) (tries named (length h.rooms) game seats (seed_of h.seed (tape h.place)) 0)) (record { rooms = h.rooms; luck = None })).0.said) one_more
      ∙ busy_full named rules pass game x found seats (seed_of h.seed (tape h.place)) h.rooms (core_of h pass) (length h.rooms) 0 h.rooms from_zero (λ r l. refl) (λ r low high. all r high)
    where
      one_more : length h.rooms + 1 ≡ suc (length h.rooms)
      one_more = omega arith

      from_zero : length h.rooms ≡ 0 + length h.rooms
      from_zero = omega arith

  module _ (h : Hall X) (pass : ℕ) (game : List ℕ) (x : X) (seats : ℕ) (found : named game ≡ Some x) (room : ℕ) (there : room < length h.rooms)
      (lower : (r : ℕ) → r < room → reply_in rules h.rooms r (create_entry tape h pass x seats) ≡ told_as.Busy)
      (free : is_busy (reply_in rules h.rooms room (create_entry tape h pass x seats)) ≡ false) where
    made_there : IsMade named rules pass game x found seats (seed_of h.seed (tape h.place)) h.rooms (core_of h pass) room free h.rooms (create_done named rules tape h pass game seats)
    made_there =
        subst (λ n. IsMade named rules pass game x found seats (seed_of h.seed (tape h.place)) h.rooms (core_of h pass) room free h.rooms
        (run named (ask_rooms rules pass) n (moved (core_of h pass) (tries named (length h.rooms) game seats (seed_of h.seed (tape h.place)) 0)) (record { rooms = h.rooms; luck = None })))
        (sym one_more)
        (least_made named rules pass game x found seats (seed_of h.seed (tape h.place)) h.rooms (core_of h pass) room free room (length h.rooms) 0 h.rooms
        (omega arith) (omega arith) there refl (λ r l. refl) (λ r low high. lower r high))
      where
        one_more : length h.rooms + 1 ≡ suc (length h.rooms)
        one_more = omega arith

    pub least_answers : (create_done named rules tape h pass game seats).0.said ≡ Some (created_by room (reply_in rules h.rooms room (create_entry tape h pass x seats)))
    least_answers = made_there.0

    pub least_changes : ChangesOne rules room (create_entry tape h pass x seats) h.rooms (create_done named rules tape h pass game seats).1.rooms
    least_changes = record { has = made_there.1; others = made_there.2 }
