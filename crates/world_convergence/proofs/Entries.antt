-- What an entry makes of a pass's latest session: what it was sent stays, but for its own Takes, and it has done one thing more at most. An
-- entry begins a session for its own pass alone.
use Rattle.std.proofs.Common.{◌≡◌, ◌≤◌, ℕ, ◌+◌, ◌==◌, Bool, true, false, ◌&&◌, if◌then◌else◌, List, [], ◌∷◌, Ok, Err, refl, ap, ◌∙◌, arith}
use Rattle.std.specs.Prelude.{Result}
use Rattle.game_trait.specs.Rules.{Rules}
use Rattle.game_sheet.specs.Viewer.{Viewer, seat_of}
use Rattle.room_object.specs.Entry.{Entry, entry}
use Rattle.seat_roster.specs.Roster.{is_empty, join, rename, leave}
use Rattle.wire_json.specs.declared.protocol.Protocol.{Protocol}
use Rattle.wire_json.specs.declared.submission.Submission.{Submission}
use Rattle.room_history.specs.Does.{Room, room_after, room_after_want, with_new_match, with_match, with_left_seat, with_removed_if, with_session, with_fate, with_one, with_each, after_submission, new_session, is_left, left_where, with_cleared}
use Rattle.room_history.specs.Item.{GameAnswer, Item, Submitted, Took, Left, Detached, Starved, Unasked, Accepted, Refused}
use Rattle.room_history.specs.Match.{Match}
use Rattle.room_history.specs.Reply.{Fate, Unheard, Turned, Goes, fate, game_answer, created_match, named_match, reseated_match, attached_match}
use Rattle.room_history.specs.Room.{room_of}
use Rattle.room_history.specs.Session.{Session, is_detached, is_looking, number_in, session_state, with_item, with_latest, latest_state}
use Rattle.room_history.proofs.Names.{after_action, after_leaving, after_want, after_take, after_detach}
use Rattle.room_history.specs.Shown.{snapshot}
use Rattle.room_history.specs.declared.call.RoomCall.{RoomCall}
use Rattle.room_history.specs.declared.call.RoomCall.TheVariants.{Create, Join, Rename, Leave, Look, Attach, Submit, Take, Detach, Clear}
use Rattle.room_history.specs.declared.reply.RoomReply.{RoomReply}

abbrev pub one_if : Bool → ℕ
one_if true = 1
one_if false = 0

-- how many submissions with a ticket were heard by the room
abbrev pub submitted : ℕ → List Item → ℕ
submitted ticket [] = 0
submitted ticket (Submitted n s Starved ∷ own) = submitted ticket own
submitted ticket (Submitted n s game ∷ own) = one_if (s.ticket == ticket) + submitted ticket own
submitted ticket (item ∷ own) = submitted ticket own

pub record Changed (weight : ℕ → ℕ) (s t : Session) : Type 0 where
  pub sent : t.sent ≡ s.sent
  pub own : (ticket : ℕ) → submitted ticket t.own ≤ submitted ticket s.own + weight ticket

abbrev pub nothing : ℕ → ℕ
nothing ticket = 0

-- the latest session goes on, and no other begins
abbrev pub Stays : (ℕ → ℕ) → List Session → List Session → Type 0
Stays weight [] new = new ≡ []
Stays weight (s ∷ before) new = (t : Session) × (new ≡ t ∷ before) × Changed weight s t

same_changed : (weight : ℕ → ℕ) (s : Session) → Changed weight s s
same_changed weight s = record { sent = refl; own = λ ticket. omega arith }

pub same_stays : (weight : ℕ → ℕ) (l : List Session) → Stays weight l l
same_stays weight [] = refl
same_stays weight (s ∷ before) = (s, refl, same_changed weight s)

latest_stays : (weight : ℕ → ℕ) (change : Session → Session) → ((s : Session) → Changed weight s (change s)) → (l : List Session) → Stays weight l (with_latest change l)
latest_stays weight change h [] = refl
latest_stays weight change h (s ∷ before) = (change s, refl, h s)

-- ---- each change

abbrev adds : Item → ℕ → ℕ
adds (Submitted n s Starved) ticket = 0
adds (Submitted n s game) ticket = one_if (s.ticket == ticket)
adds item ticket = 0

added : (item : Item) (own : List Item) (ticket : ℕ) → submitted ticket (item ∷ own) ≡ adds item ticket + submitted ticket own
added (Submitted n s Starved) own ticket = omega arith
added (Submitted n s Unasked) own ticket = refl
added (Submitted n s Accepted) own ticket = refl
added (Submitted n s (Refused reason)) own ticket = refl
added (Took n) own ticket = omega arith
added (Left n) own ticket = omega arith
added (Detached n) own ticket = omega arith

item_changed : (weight : ℕ → ℕ) (item : Item) → ((ticket : ℕ) → adds item ticket ≤ weight ticket) → (s : Session) → Changed weight s (with_item item s)
item_changed weight item h s = by (is_detached s.own)
  where
    by : (b : Bool) → Changed weight s (if b then s else record s { own = item ∷ s.own })
    by true = same_changed weight s
    by false = record { sent = refl; own = λ ticket. omega (arith, added item s.own ticket, h ticket) }

leaving_changed : (weight : ℕ → ℕ) (seat : ℕ) (gone : Bool) (s : Session) → Changed weight s (after_leaving seat gone s)
leaving_changed weight seat gone s = by (is_looking s.own && is_left seat gone s.viewer)
  where
    by : (b : Bool) → Changed weight s (if b then record s { own = Left (number_in s.sight) ∷ s.own } else s)
    by true = record { sent = refl; own = λ ticket. omega arith }
    by false = same_changed weight s

asked_once : (s : Submission) (n : ℕ) (game : GameAnswer) (ticket : ℕ) → adds (Submitted n s game) ticket ≤ one_if (s.ticket == ticket)
asked_once s n Starved ticket = omega arith
asked_once s n Unasked ticket = omega arith
asked_once s n Accepted ticket = omega arith
asked_once s n (Refused reason) ticket = omega arith

then_changed : (weight : ℕ → ℕ) (s t u : Session) → Changed weight s t → Changed nothing t u → Changed weight s u
then_changed weight s t u h k = record { sent = k.sent ∙ h.sent; own = λ ticket. omega (arith, h.own ticket, k.own ticket) }

-- ---- each call

-- of a pass's own calls a submission is heard
abbrev pub asks : {X : Type 0} → Bool → RoomCall X → ℕ → ℕ
asks true (Submit s) ticket = one_if (s.ticket == ticket)
asks own made ticket = 0

-- a Take, and an Attach, of another pass
abbrev pub IsAside : {X : Type 0} → Bool → RoomCall X → Type 0
IsAside true (Attach serial viewer protocol) = ⊥
IsAside true Take = ⊥
IsAside own made = Unit {0}

module _ {X G : Type 0} (rules : X → Rules G) (room : ℕ) where
  action_changed : (m : Match X G) (s : Session) → Changed nothing s (after_action rules room m s)
  action_changed m s = by (is_looking s.own)
    where
      by : (b : Bool) → Changed nothing s (if b then record s { sight = snapshot rules m (seat_of s.viewer) ∷ s.sight } else s)
      by true = record { sent = refl; own = λ ticket. omega arith }
      by false = same_changed nothing s

  made_stays : (weight : ℕ → ℕ) (r : Room X G) (result : Result (Match X G) RoomReply) (q : ℕ) → Stays weight (r.sessions q) ((with_new_match r result).sessions q)
  made_stays weight r (Ok m) q = same_stays weight (r.sessions q)
  made_stays weight r (Err why) q = same_stays weight (r.sessions q)

  match_stays : (weight : ℕ → ℕ) (r : Room X G) (result : Result (Match X G) RoomReply) (q : ℕ) → Stays weight (r.sessions q) ((with_match r result).sessions q)
  match_stays weight r (Ok m) q = same_stays weight (r.sessions q)
  match_stays weight r (Err why) q = same_stays weight (r.sessions q)

  removed_stays : (weight : ℕ → ℕ) (gone : Bool) (m : Match X G) (r : Room X G) (q : ℕ) (old : List Session) → Stays weight old (r.sessions q) → Stays weight old ((with_removed_if gone m r).sessions q)
  removed_stays weight true m r q old h = h
  removed_stays weight false m r q old h = h

  left_stays : (weight : ℕ → ℕ) (r : Room X G) (seat : ℕ) (result : Result (Match X G) RoomReply) (q : ℕ) → Stays weight (r.sessions q) ((with_left_seat seat r result).sessions q)
  left_stays weight r seat (Ok m) q =
      removed_stays weight (is_empty m.roster) m (with_each (after_leaving seat (is_empty m.roster)) r) q (r.sessions q)
      (latest_stays weight (after_leaving seat (is_empty m.roster)) (leaving_changed weight seat (is_empty m.roster)) (r.sessions q))
  left_stays weight r seat (Err why) q = same_stays weight (r.sessions q)

  cleared_stays : (weight : ℕ → ℕ) (r : Room X G) (result : Result (Match X G) RoomReply) (q : ℕ) → Stays weight (r.sessions q) ((with_cleared r result).sessions q)
  cleared_stays weight r (Ok m) q = latest_stays weight (left_where true) (leaving_changed weight 0 true) (r.sessions q)
  cleared_stays weight r (Err why) q = same_stays weight (r.sessions q)

  session_stays : (weight : ℕ → ℕ) (own : Bool) (serial : ℕ) (viewer : Viewer) (protocol : Protocol) (m : Match X G) (l : List Session) → IsAside {X = X} own (Attach serial viewer protocol)
      → Stays weight l (if own then new_session rules room m viewer protocol ∷ l else l)
  session_stays weight true serial viewer protocol m l a = absurd a
  session_stays weight false serial viewer protocol m l a = same_stays weight l

  attach_stays : (weight : ℕ → ℕ) (r : Room X G) (pass serial : ℕ) (viewer : Viewer) (protocol : Protocol) (result : Result (Match X G) RoomReply) (q : ℕ) → IsAside {X = X} (pass == q) (Attach serial viewer protocol)
      → Stays weight (r.sessions q) ((with_session rules room pass viewer protocol r result).sessions q)
  attach_stays weight r pass serial viewer protocol (Ok m) q a = session_stays weight (pass == q) serial viewer protocol m (r.sessions q) a
  attach_stays weight r pass serial viewer protocol (Err why) q a = same_stays weight (r.sessions q)

  -- a submission of the pass, and then what everybody is shown of it
  submit_by : (own : Bool) (s : Submission) (change : Session → Session) → ((c : Session) → Changed (λ ticket. one_if (s.ticket == ticket)) c (change c)) → (l : List Session)
      → Stays (asks {X = X} own (Submit s)) l (if own then with_latest change l else l)
  submit_by true s change h l = latest_stays (asks {X = X} true (Submit s)) change h l
  submit_by false s change h l = same_stays (asks {X = X} false (Submit s)) l

  shown_by : (weight : ℕ → ℕ) (m : Match X G) (old new : List Session) → Stays weight old new → Stays weight old (with_latest (after_action rules room m) new)
  shown_by weight m [] new e = ap (with_latest (after_action rules room m)) e
  shown_by weight m (s ∷ before) new h =
      (after_action rules room m h.0, ap (with_latest (after_action rules room m)) h.1, then_changed weight s h.0 (after_action rules room m h.0) h.2 (action_changed m h.0))

  fate_stays : (weight : ℕ → ℕ) (r : Room X G) (f : Fate X G) (q : ℕ) (old : List Session) → Stays weight old (r.sessions q) → Stays weight old ((with_fate rules room r f).sessions q)
  fate_stays weight r Unheard q old h = h
  fate_stays weight r (Turned n reason) q old h = h
  fate_stays weight r (Goes m) q old h = shown_by weight m old (r.sessions q) h

  take_by : (own : Bool) (weight : ℕ → ℕ) (l : List Session) → IsAside {X = X} own Take → Stays weight l (if own then with_latest after_take l else l)
  take_by true weight l a = absurd a
  take_by false weight l a = same_stays weight l

  detach_by : (own : Bool) (weight : ℕ → ℕ) (l : List Session) → Stays weight l (if own then with_latest after_detach l else l)
  detach_by true weight l = latest_stays weight after_detach (λ s. item_changed weight (Detached (number_in s.sight)) (λ ticket. omega arith) s) l
  detach_by false weight l = same_stays weight l

  call_stays : (r : Room X G) (pass : ℕ) (made : RoomCall X) (q : ℕ) → IsAside (pass == q) made → Stays (asks (pass == q) made) (r.sessions q) ((room_after rules room r pass made).sessions q)
  call_stays r pass (Create game seats seed) q a = made_stays _ r (created_match rules r.serials r.standing game seats seed) q
  call_stays r pass (Join serial seat name key) q a = match_stays _ r (reseated_match (named_match r.standing serial) (λ roster. join roster seat name key)) q
  call_stays r pass (Rename serial seat key name) q a = match_stays _ r (reseated_match (named_match r.standing serial) (λ roster. rename roster seat key name)) q
  call_stays r pass (Leave serial seat key) q a = left_stays _ r seat (reseated_match (named_match r.standing serial) (λ roster. leave roster seat key)) q
  call_stays r pass (Clear serial) q a = cleared_stays _ r (named_match r.standing serial) q
  call_stays r pass (Look serial) q a = same_stays _ (r.sessions q)
  call_stays r pass (Attach serial viewer protocol) q a =
      attach_stays _ r pass serial viewer protocol (attached_match r.standing (latest_state (r.sessions pass)) serial viewer) q a
  call_stays r pass (Submit s) q a =
      fate_stays (asks {X = X} (pass == q) (Submit s)) (with_one pass (after_submission rules room r.standing s) r) (fate rules room r.standing (r.sessions pass) s) q (r.sessions q)
      (submit_by (pass == q) s (after_submission rules room r.standing s)
      (λ c. item_changed (λ ticket. one_if (s.ticket == ticket)) (Submitted (number_in c.sight) s (game_answer rules room r.standing (session_state c) c.viewer s))
      (asked_once s (number_in c.sight) (game_answer rules room r.standing (session_state c) c.viewer s)) c) (r.sessions q))
  call_stays r pass Take q a = take_by (pass == q) _ (r.sessions q) a
  call_stays r pass Detach q a = detach_by (pass == q) _ (r.sessions q)

  want_by : (own : Bool) (s : Submission) (l : List Session) → Stays nothing l (if own then with_latest (after_want rules room s) l else l)
  want_by true s l = latest_stays nothing (after_want rules room s) (λ c. item_changed nothing (Submitted (number_in c.sight) s Starved) (λ ticket. omega arith) c) l
  want_by false s l = same_stays nothing l

  want_stays : (r : Room X G) (pass : ℕ) (made : RoomCall X) (q : ℕ) → Stays nothing (r.sessions q) ((room_after_want rules room r pass made).sessions q)
  want_stays r pass (Create game seats seed) q = same_stays nothing (r.sessions q)
  want_stays r pass (Join serial seat name key) q = same_stays nothing (r.sessions q)
  want_stays r pass (Rename serial seat key name) q = same_stays nothing (r.sessions q)
  want_stays r pass (Leave serial seat key) q = same_stays nothing (r.sessions q)
  want_stays r pass (Clear serial) q = same_stays nothing (r.sessions q)
  want_stays r pass (Look serial) q = same_stays nothing (r.sessions q)
  want_stays r pass (Attach serial viewer protocol) q = same_stays nothing (r.sessions q)
  want_stays r pass (Submit s) q = want_by (pass == q) s (r.sessions q)
  want_stays r pass Take q = same_stays nothing (r.sessions q)
  want_stays r pass Detach q = same_stays nothing (r.sessions q)

  -- what an entry adds for a pass
  abbrev pub weight : ℕ → Entry (RoomCall X) → ℕ → ℕ
  weight q e ticket = if e.starved then 0 else asks (e.pass == q) e.call ticket

  pub entry_stays : (h : List (Entry (RoomCall X))) (pass : ℕ) (made : RoomCall X) (starved : Bool) (q : ℕ) → IsAside (pass == q) made
      → Stays (λ ticket. if starved then 0 else asks (pass == q) made ticket) ((room_of rules room h).sessions q) ((room_of rules room (entry pass made starved ∷ h)).sessions q)
  entry_stays h pass made true q a = want_stays (room_of rules room h) pass made q
  entry_stays h pass made false q a = call_stays (room_of rules room h) pass made q a
