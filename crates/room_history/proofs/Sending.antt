-- What an entry sends a session: what its Take is replied, and nothing else.
use Rattle.std.proofs.Common.{◌≡◌, ◌<◌, ℕ, suc, ◌+◌, ◌==◌, Bool, true, false, ◌&&◌, if◌then◌else◌, List, [], ◌∷◌, ◌++◌, length, Option, Some, None, Result, Ok, Err, refl, sym, ap, ◌∙◌, append-nil, arith}
use Rattle.std.specs.List.{concat}
use Rattle.std.proofs.lemmas.Bool.Decides.{nat_tests}
use Rattle.std.proofs.lemmas.List.Folds.{concat-append}
use Rattle.game_trait.specs.Rules.{Rules}
use Rattle.room_object.specs.Entry.{Entry}
use Rattle.seat_roster.specs.Roster.{is_empty, join, rename, leave}
use Rattle.wire_json.specs.declared.protocol.Protocol.{Protocol}
use Rattle.room_history.specs.Does.{Room, room_after, room_after_want, with_new_match, with_match, with_left_seat, with_removed_if, with_session, with_fate, with_one, with_each, after_submission, new_session, is_left, left_where, with_cleared}
use Rattle.room_history.specs.Item.{Item, Submitted, Left, Detached, Starved}
use Rattle.room_history.specs.Match.{Match}
use Rattle.room_history.specs.Piece.{Piece, State, Open, Ended, Closed, waiting_lines}
use Rattle.room_history.specs.Reply.{Fate, Unheard, Turned, Goes, fate, game_answer, created_match, named_match, reseated_match, attached_match}
use Rattle.room_history.specs.Room.{room_of, reply, session, session_in}
use Rattle.room_history.specs.Sent.{is_take, is_take_of, bytes_of_entry, SendsReply}
use Rattle.room_history.specs.Session.{Session, handful, is_detached, is_looking, lines_handed_out, number_in, session_state, stream_of, take_reply_in, bytes_handed_out, bye_lines, with_item, with_latest, latest_state, latest_take_reply}
use Rattle.room_history.proofs.Names.{after_action, after_leaving, after_want, after_take, after_detach, take_reply}
use Rattle.room_history.specs.Shown.{snapshot}
use Rattle.game_sheet.specs.Viewer.{Viewer, seat_of}
use Rattle.room_history.specs.declared.call.RoomCall.{RoomCall}
use Rattle.room_history.specs.declared.call.RoomCall.TheVariants.{Create, Join, Rename, Leave, Look, Attach, Submit, Take, Detach, Clear}
use Rattle.room_history.specs.declared.reply.RoomReply.{RoomReply}
use Rattle.room_history.proofs.Clauses.{below, some_session, none_session}
use Rattle.room_history.proofs.Keeps.{same_pass}
use Rattle.room_history.proofs.Isolation.{take_adds}
use Rattle.room_history.proofs.Sessions.{plus_item}

-- what a session was sent stays
abbrev Stays : Option Session → Session → Type 0
Stays None t = t.sent ≡ []
Stays (Some s) t = t.sent ≡ s.sent

either_same : (b : Bool) (x : List ℕ) → (if b then x else x) ≡ x
either_same true x = refl
either_same false x = refl

stays_same : (o : Option Session) (t : Session) → o ≡ Some t → Stays o t
stays_same o t e = rw e refl

changed_by : (b : Bool) (j : ℕ) (s : Session) (before : List Session) (u t : Session) → u.sent ≡ s.sent → (if b then Some u else session_in j before) ≡ Some t → Stays (if b then Some s else session_in j before) t
changed_by true j s before u t h e = sym (ap (λ x. x.sent) (some_session u t e)) ∙ h
changed_by false j s before u t h e = stays_same (session_in j before) t e

changed : (change : Session → Session) → ((s : Session) → (change s).sent ≡ s.sent) → (j : ℕ) (l : List Session) (t : Session) → session_in j (with_latest change l) ≡ Some t → Stays (session_in j l) t
changed change h j [] t e = absurd (none_session t e)
changed change h j (s ∷ before) t e = changed_by (length before == j) j s before (change s) t (h s) e

changed_if : (b : Bool) (change : Session → Session) → ((s : Session) → (change s).sent ≡ s.sent) → (j : ℕ) (l : List Session) (t : Session) → session_in j (if b then with_latest change l else l) ≡ Some t → Stays (session_in j l) t
changed_if true change h j l t e = changed change h j l t e
changed_if false change h j l t e = stays_same (session_in j l) t e

-- a session that begins
begun_by : (b : Bool) (j : ℕ) (u : Session) (l : List Session) (t : Session) → (length l == j) ≡ b → u.sent ≡ [] → (if b then Some u else session_in j l) ≡ Some t → Stays (session_in j l) t
begun_by true j u l t h n e = by (session_in j l) refl
  where
    same : (k n : ℕ) → (n == k) ≡ true → k < n → ⊥
    same k n h q = grind (arith, nat_tests, h, q)

    by : (o : Option Session) → session_in j l ≡ o → Stays o t
    by None f = sym (ap (λ x. x.sent) (some_session u t e)) ∙ n
    by (Some s) f = absurd (same j (length l) h (below j l s f))
begun_by false j u l t h n e = stays_same (session_in j l) t e

begun_if : (b : Bool) (j : ℕ) (u : Session) (l : List Session) (t : Session) → u.sent ≡ [] → session_in j (if b then u ∷ l else l) ≡ Some t → Stays (session_in j l) t
begun_if true j u l t n e = begun_by (length l == j) j u l t refl n e
begun_if false j u l t n e = stays_same (session_in j l) t e

item_sends : (item : Item) (s : Session) → (with_item item s).sent ≡ s.sent
item_sends item s = by (is_detached s.own)
  where
    by : (b : Bool) → (if b then s else plus_item s item).sent ≡ s.sent
    by true = refl
    by false = refl

leaving_sends : (seat : ℕ) (gone : Bool) (s : Session) → (after_leaving seat gone s).sent ≡ s.sent
leaving_sends seat gone s = by (is_looking s.own && is_left seat gone s.viewer)
  where
    by : (b : Bool) → (if b then plus_item s (Left (number_in s.sight)) else s).sent ≡ s.sent
    by true = refl
    by false = refl

-- the lines that a Take hands out are the bytes that it is replied
handed_bytes : (st : State) (ps : List Piece) → concat (lines_handed_out st ps) ≡ bytes_handed_out (take_reply_in st ps)
handed_bytes Open ps = sym (append-nil (concat (waiting_lines ps)))
handed_bytes (Ended why) ps = concat-append (waiting_lines ps) (bye_lines (Some why))
handed_bytes Closed ps = refl

take_bytes : (s : Session) → concat (after_take s).sent ≡ concat s.sent ++ bytes_handed_out (take_reply s)
take_bytes s = ap concat (take_adds s) ∙ concat-append s.sent (handful s) ∙ ap (λ x. concat s.sent ++ x) (handed_bytes (session_state s) (stream_of s))

module _ {X G : Type 0} (rules : X → Rules G) (room : ℕ) where
  action_sends : (m : Match X G) (s : Session) → (after_action rules room m s).sent ≡ s.sent
  action_sends m s = by (is_looking s.own)
    where
      by : (b : Bool) → (if b then record s { sight = snapshot rules m (seat_of s.viewer) ∷ s.sight } else s).sent ≡ s.sent
      by true = refl
      by false = refl

  made_stays : (r : Room X G) (result : Result (Match X G) RoomReply) (q j : ℕ) (t : Session) → session_in j ((with_new_match r result).sessions q) ≡ Some t → Stays (session_in j (r.sessions q)) t
  made_stays r (Ok m) q j t e = stays_same (session_in j (r.sessions q)) t e
  made_stays r (Err why) q j t e = stays_same (session_in j (r.sessions q)) t e

  match_stays : (r : Room X G) (result : Result (Match X G) RoomReply) (q j : ℕ) (t : Session) → session_in j ((with_match r result).sessions q) ≡ Some t → Stays (session_in j (r.sessions q)) t
  match_stays r (Ok m) q j t e = stays_same (session_in j (r.sessions q)) t e
  match_stays r (Err why) q j t e = stays_same (session_in j (r.sessions q)) t e

  removed_stays : (gone : Bool) (m : Match X G) (r : Room X G) (q j : ℕ) (o : Option Session) (t : Session) → (session_in j (r.sessions q) ≡ Some t → Stays o t) → session_in j ((with_removed_if gone m r).sessions q) ≡ Some t → Stays o t
  removed_stays true m r q j o t h e = h e
  removed_stays false m r q j o t h e = h e

  left_stays : (r : Room X G) (result : Result (Match X G) RoomReply) (seat q j : ℕ) (t : Session) → session_in j ((with_left_seat seat r result).sessions q) ≡ Some t → Stays (session_in j (r.sessions q)) t
  left_stays r (Ok m) seat q j t e =
      removed_stays (is_empty m.roster) m (with_each (after_leaving seat (is_empty m.roster)) r) q j (session_in j (r.sessions q)) t
      (changed (after_leaving seat (is_empty m.roster)) (leaving_sends seat (is_empty m.roster)) j (r.sessions q) t) e
  left_stays r (Err why) seat q j t e = stays_same (session_in j (r.sessions q)) t e

  cleared_stays : (r : Room X G) (result : Result (Match X G) RoomReply) (q j : ℕ) (t : Session) → session_in j ((with_cleared r result).sessions q) ≡ Some t → Stays (session_in j (r.sessions q)) t
  cleared_stays r (Ok m) q j t e = changed (left_where true) (leaving_sends 0 true) j (r.sessions q) t e
  cleared_stays r (Err why) q j t e = stays_same (session_in j (r.sessions q)) t e

  session_stays : (r : Room X G) (result : Result (Match X G) RoomReply) (pass : ℕ) (viewer : Viewer) (protocol : Protocol) (q j : ℕ) (t : Session)
      → session_in j ((with_session rules room pass viewer protocol r result).sessions q) ≡ Some t → Stays (session_in j (r.sessions q)) t
  session_stays r (Ok m) pass viewer protocol q j t e = begun_if (pass == q) j (new_session rules room m viewer protocol) (r.sessions q) t refl e
  session_stays r (Err why) pass viewer protocol q j t e = stays_same (session_in j (r.sessions q)) t e

  -- two changes, one after the other
  twice : (m : Match X G) (b : Bool) (change : Session → Session) → ((s : Session) → (change s).sent ≡ s.sent) → (j : ℕ) (l : List Session) (t : Session)
      → session_in j (with_latest (after_action rules room m) (if b then with_latest change l else l)) ≡ Some t → Stays (session_in j l) t
  twice m true change h j [] t e = absurd (none_session t e)
  twice m true change h j (s ∷ before) t e = changed_by (length before == j) j s before (after_action rules room m (change s)) t (action_sends m (change s) ∙ h s) e
  twice m false change h j l t e = changed (after_action rules room m) (action_sends m) j l t e

  fate_stays : (r : Room X G) (pass : ℕ) (change : Session → Session) → ((s : Session) → (change s).sent ≡ s.sent) → (f : Fate X G) (q j : ℕ) (t : Session)
      → session_in j ((with_fate rules room (with_one pass change r) f).sessions q) ≡ Some t → Stays (session_in j (r.sessions q)) t
  fate_stays r pass change h Unheard q j t e = changed_if (pass == q) change h j (r.sessions q) t e
  fate_stays r pass change h (Turned n reason) q j t e = changed_if (pass == q) change h j (r.sessions q) t e
  fate_stays r pass change h (Goes m) q j t e = twice m (pass == q) change h j (r.sessions q) t e

  -- every call but a Take
  call_stays : (r : Room X G) (pass : ℕ) (call : RoomCall X) → is_take call ≡ false → (q j : ℕ) (t : Session) → session_in j ((room_after rules room r pass call).sessions q) ≡ Some t → Stays (session_in j (r.sessions q)) t
  call_stays r pass (Create game seats seed) n q j t e = made_stays r (created_match rules r.serials r.standing game seats seed) q j t e
  call_stays r pass (Join serial seat name key) n q j t e = match_stays r (reseated_match (named_match r.standing serial) (λ roster. join roster seat name key)) q j t e
  call_stays r pass (Rename serial seat key name) n q j t e = match_stays r (reseated_match (named_match r.standing serial) (λ roster. rename roster seat key name)) q j t e
  call_stays r pass (Leave serial seat key) n q j t e = left_stays r (reseated_match (named_match r.standing serial) (λ roster. leave roster seat key)) seat q j t e
  call_stays r pass (Look serial) n q j t e = stays_same (session_in j (r.sessions q)) t e
  call_stays r pass (Attach serial viewer protocol) n q j t e = session_stays r (attached_match r.standing (latest_state (r.sessions pass)) serial viewer) pass viewer protocol q j t e
  call_stays r pass (Submit s) n q j t e =
      fate_stays r pass (after_submission rules room r.standing s) (λ c. item_sends (Submitted (number_in c.sight) s (game_answer rules room r.standing (session_state c) c.viewer s)) c)
      (fate rules room r.standing (r.sessions pass) s) q j t e
  call_stays r pass Take n q j t e = absurd (not_true n)
    where
      not_true : true ≡ false → ⊥
      not_true h = cc
  call_stays r pass Detach n q j t e = changed_if (pass == q) after_detach (λ s. item_sends (Detached (number_in s.sight)) s) j (r.sessions q) t e
  call_stays r pass (Clear serial) n q j t e = cleared_stays r (named_match r.standing serial) q j t e

  want_stays : (r : Room X G) (pass : ℕ) (call : RoomCall X) (q j : ℕ) (t : Session) → session_in j ((room_after_want rules room r pass call).sessions q) ≡ Some t → Stays (session_in j (r.sessions q)) t
  want_stays r pass (Create game seats seed) q j t e = stays_same (session_in j (r.sessions q)) t e
  want_stays r pass (Join serial seat name key) q j t e = stays_same (session_in j (r.sessions q)) t e
  want_stays r pass (Rename serial seat key name) q j t e = stays_same (session_in j (r.sessions q)) t e
  want_stays r pass (Leave serial seat key) q j t e = stays_same (session_in j (r.sessions q)) t e
  want_stays r pass (Look serial) q j t e = stays_same (session_in j (r.sessions q)) t e
  want_stays r pass (Attach serial viewer protocol) q j t e = stays_same (session_in j (r.sessions q)) t e
  want_stays r pass (Submit s) q j t e =
      changed_if (pass == q) (after_want rules room s) (λ c. item_sends (Submitted (number_in c.sight) s Starved) c) j (r.sessions q) t e
  want_stays r pass Take q j t e = stays_same (session_in j (r.sessions q)) t e
  want_stays r pass Detach q j t e = stays_same (session_in j (r.sessions q)) t e
  want_stays r pass (Clear serial) q j t e = stays_same (session_in j (r.sessions q)) t e

  module _ (h : List (Entry (RoomCall X))) (e : Entry (RoomCall X)) (pass j : ℕ) where
    sends_none : (o : Option Session) (t : Session) → bytes_of_entry rules room h e pass j ≡ [] → Stays o t → SendsReply rules room h e pass j o t
    sends_none None t n s = s
    sends_none (Some old) t n s = ap concat s ∙ sym (append-nil (concat old.sent)) ∙ ap (λ x. concat old.sent ++ x) (sym n)

    no_take : is_take e.call ≡ false → bytes_of_entry rules room h e pass j ≡ []
    no_take n = rw n refl

    starved_bytes : e.starved ≡ true → bytes_of_entry rules room h e pass j ≡ []
    unfolding reply
    starved_bytes n = rw n (either_same (is_take_of rules room h e pass j) [])

    reply_taken : e.starved ≡ false → e.call ≡ Take → reply rules room h e ≡ latest_take_reply ((room_of rules room h).sessions e.pass)
    unfolding reply
    reply_taken n c = rw (n, c) refl

    next_same : (n : ℕ) → (n == j) ≡ true → (suc n == j + 1) ≡ true
    next_same n q = grind (arith, nat_tests, q)

    next_other : (n : ℕ) → (n == j) ≡ false → (suc n == j + 1) ≡ false
    next_other n q = grind (arith, nat_tests, q)

    take_bytes_of : (s : Session) (before : List Session) → (room_of rules room h).sessions pass ≡ s ∷ before → e.starved ≡ false → e.call ≡ Take → (e.pass == pass) ≡ true → (length before == j) ≡ true
        → bytes_of_entry rules room h e pass j ≡ bytes_handed_out (take_reply s)
    take_bytes_of s before l n c p q =
        rw (ap is_take c, p, ap (λ x. length x == j + 1) l ∙ next_same (length before) q)
        (ap bytes_handed_out (reply_taken n c ∙ ap (λ x. latest_take_reply ((room_of rules room h).sessions x)) (same_pass rules room e.pass pass p) ∙ ap latest_take_reply l))

    at_latest : (t : Session) (l : List Session) → (room_of rules room h).sessions pass ≡ l → e.starved ≡ false → e.call ≡ Take → (e.pass == pass) ≡ true → session_in j (with_latest after_take l) ≡ Some t
        → SendsReply rules room h e pass j (session_in j l) t
    at_latest t [] l n c p x = absurd (none_session t x)
    at_latest t (s ∷ before) l n c p x = by (length before == j) refl x
      where
        by : (b : Bool) → (length before == j) ≡ b → (if b then Some (after_take s) else session_in j before) ≡ Some t → SendsReply rules room h e pass j (if b then Some s else session_in j before) t
        by true q x =
            sym (ap (λ u. concat u.sent) (some_session (after_take s) t x)) ∙ take_bytes s ∙ ap (λ y. concat s.sent ++ y) (sym (take_bytes_of s before l n c p q))
        by false q x = sends_none (session_in j before) t (rw (ap is_take c, p, ap (λ x. length x == j + 1) l ∙ next_other (length before) q) refl) (stays_same (session_in j before) t x)

    take_sends : (t : Session) (b : Bool) → (e.pass == pass) ≡ b → e.starved ≡ false → e.call ≡ Take
        → session_in j (if b then with_latest after_take ((room_of rules room h).sessions pass) else (room_of rules room h).sessions pass) ≡ Some t
        → SendsReply rules room h e pass j (session rules room h pass j) t
    take_sends t true p n c x = at_latest t ((room_of rules room h).sessions pass) refl n c p x
    take_sends t false p n c x = sends_none (session rules room h pass j) t (rw (ap is_take c, p) refl) (stays_same (session rules room h pass j) t x)

    other_sends : (t : Session) (call : RoomCall X) → e.call ≡ call → is_take call ≡ false → session_in j ((room_after rules room (room_of rules room h) e.pass call).sessions pass) ≡ Some t
        → SendsReply rules room h e pass j (session rules room h pass j) t
    other_sends t call c n x = sends_none (session rules room h pass j) t (no_take (ap is_take c ∙ n)) (call_stays (room_of rules room h) e.pass call n pass j t x)

    pub sends_reply : (t : Session) → session rules room (e ∷ h) pass j ≡ Some t → SendsReply rules room h e pass j (session rules room h pass j) t
    sends_reply t x = by e.starved e.call refl refl x
      where
        by : (b : Bool) (call : RoomCall X) → e.starved ≡ b → e.call ≡ call
            → session_in j ((if b then room_after_want rules room (room_of rules room h) e.pass call else room_after rules room (room_of rules room h) e.pass call).sessions pass) ≡ Some t
            → SendsReply rules room h e pass j (session rules room h pass j) t
        by true call n c x = sends_none (session rules room h pass j) t (starved_bytes n) (want_stays (room_of rules room h) e.pass call pass j t x)
        by false (Create game seats seed) n c x = other_sends t (Create game seats seed) c refl x
        by false (Join serial seat name key) n c x = other_sends t (Join serial seat name key) c refl x
        by false (Rename serial seat key name) n c x = other_sends t (Rename serial seat key name) c refl x
        by false (Leave serial seat key) n c x = other_sends t (Leave serial seat key) c refl x
        by false (Look serial) n c x = other_sends t (Look serial) c refl x
        by false (Attach serial viewer protocol) n c x = other_sends t (Attach serial viewer protocol) c refl x
        by false (Submit s) n c x = other_sends t (Submit s) c refl x
        by false Take n c x = take_sends t (e.pass == pass) refl n c x
        by false Detach n c x = other_sends t Detach c refl x
        by false (Clear serial) n c x = other_sends t (Clear serial) c refl x
