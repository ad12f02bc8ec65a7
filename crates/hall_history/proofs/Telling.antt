-- What Takes hand out to a session is what it was sent.
use Rattle.std.proofs.Common.{◌≡◌, ℕ, ◌+◌, ◌==◌, Bool, true, false, ◌&&◌, if◌then◌else◌, List, [], ◌∷◌, ◌++◌, length, Option, Some, None, refl, sym, ap, ◌∙◌, append-nil, arith}
use Rattle.std.specs.List.{concat}
use Rattle.std.proofs.lemmas.Bool.Decides.{nat_tests}
use Rattle.game_trait.specs.Rules.{Rules}
use Rattle.room_object.specs.Entry.{Entry}
use Rattle.room_history.specs.Room.{reply, room_of, session, session_in}
use Rattle.room_history.specs.Sent.{SendsReply, bytes_of_entry, is_take}
use Rattle.room_history.specs.Session.{Session, bytes_handed_out}
use Rattle.room_history.specs.declared.call.RoomCall.{RoomCall}
use Rattle.room_history.specs.declared.call.RoomCall.TheVariants as call
use Rattle.room_history.proofs.Clauses.{go_on}
use Rattle.room_history.proofs.Sending.{sends_reply}
use Rattle.hall_history.specs.Adding.{Adds, AreOf, IsAsking}
use Rattle.hall_history.specs.Rooms.{History, Rooms, history_of}
use Rattle.hall_history.specs.Told.{handed_in}

none_some : {A : Type 0} (x : A) → None ≡ Some x → ⊥
none_some x e = cc

-- no session of that number has begun
no_such : (l : List Session) (j : ℕ) → session_in j l ≡ None → (length l == j + 1) ≡ false
no_such [] j e = grind (arith, nat_tests)
no_such (s ∷ before) j e = by (length before == j) refl e
  where
    by : (b : Bool) → (length before == j) ≡ b → (if b then Some s else session_in j before) ≡ None → (length (s ∷ before) == j + 1) ≡ false
    by true q f = absurd (none_some s (sym f))
    by false q f = grind (arith, nat_tests)

module _ {X G : Type 0} (rules : X → Rules G) (room : ℕ) (pass j : ℕ) where
  last_false : (a b : Bool) → (a && (b && false)) ≡ false
  last_false true true = refl
  last_false true false = refl
  last_false false b = refl

  nothing_yet : (h : History X) (e : Entry (RoomCall X)) → session rules room h pass j ≡ None → bytes_of_entry rules room h e pass j ≡ []
  nothing_yet h e n =
      ap (λ b. if is_take e.call && ((e.pass == pass) && b) then bytes_handed_out (reply rules room h e) else []) (no_such ((room_of rules room h).sessions pass) j n)
      ∙ ap (λ b. if b then bytes_handed_out (reply rules room h e) else []) (last_false (is_take e.call) (e.pass == pass))

  earlier_none : (h : History X) (e : Entry (RoomCall X)) → session rules room (e ∷ h) pass j ≡ None → session rules room h pass j ≡ None
  earlier_none h e n = by (session rules room h pass j) refl
    where
      by : (o : Option Session) → session rules room h pass j ≡ o → o ≡ None
      by None q = refl
      by (Some s) q = let g = go_on rules room h e pass j s q in absurd (none_some g.0 (sym n ∙ g.1))

  none_handed : (h : History X) → session rules room h pass j ≡ None → handed_in rules room h pass j ≡ []
  none_handed [] n = refl
  none_handed (e ∷ h) n =
      ap (λ l. l ++ bytes_of_entry rules room h e pass j) (none_handed h (earlier_none h e n)) ∙ nothing_yet h e (earlier_none h e n)

  -- a session was sent what its Takes handed out
  pub sent_is_handed : (h : History X) (s : Session) → session rules room h pass j ≡ Some s → concat s.sent ≡ handed_in rules room h pass j
  sent_is_handed [] s q = absurd (none_some s q)
  sent_is_handed (e ∷ h) s q = by (session rules room h pass j) refl (sends_reply rules room h e pass j s q) (λ t f. sent_is_handed h t f)
    where
      by : (o : Option Session) → session rules room h pass j ≡ o → SendsReply rules room h e pass j o s → ((t : Session) → session rules room h pass j ≡ Some t → concat t.sent ≡ handed_in rules room h pass j)
          → concat s.sent ≡ handed_in rules room h pass j ++ bytes_of_entry rules room h e pass j
      by None n r before =
          ap (λ l. concat l) r
          ∙ sym (ap (λ l. l ++ bytes_of_entry rules room h e pass j) (none_handed h n) ∙ nothing_yet h e n)
      by (Some t) f r before = r ∙ ap (λ l. l ++ bytes_of_entry rules room h e pass j) (before t f)

  -- other calls hand out nothing
  asks_no_take : (made : RoomCall X) → IsAsking made → is_take made ≡ false
  asks_no_take (call.Create game seats seed) h = refl
  asks_no_take (call.Join serial seat name key) h = refl
  asks_no_take (call.Rename serial seat key name) h = refl
  asks_no_take (call.Leave serial seat key) h = refl
  asks_no_take (call.Clear serial) h = absurd h
  asks_no_take (call.Look serial) h = refl
  asks_no_take (call.Attach serial viewer protocol) h = refl
  asks_no_take (call.Submit s) h = refl
  asks_no_take call.Take h = absurd h
  asks_no_take call.Detach h = absurd h

  pub no_take_no_bytes : (h : History X) (e : Entry (RoomCall X)) → is_take e.call ≡ false → bytes_of_entry rules room h e pass j ≡ []
  no_take_no_bytes h e n =
      ap (λ b. if b && ((e.pass == pass) && (length ((room_of rules room h).sessions pass) == j + 1)) then bytes_handed_out (reply rules room h e) else []) n

  pub asking_handed : (by_pass : ℕ) (entries : List (Entry (RoomCall X))) (h : History X) → AreOf IsAsking by_pass entries → handed_in rules room (entries ++ h) pass j ≡ handed_in rules room h pass j
  asking_handed by_pass [] h a = refl
  asking_handed by_pass (e ∷ entries) h a =
      ap (λ l. l ++ bytes_of_entry rules room (entries ++ h) e pass j) (asking_handed by_pass entries h a.2)
      ∙ ap (λ l. handed_in rules room h pass j ++ l) (no_take_no_bytes (entries ++ h) e (asks_no_take e.call a.1))
      ∙ append-nil (handed_in rules room h pass j)

  pub adds_handed : (by_pass : ℕ) (old new : Rooms X) → Adds IsAsking by_pass old new
      → handed_in rules room (history_of new room) pass j ≡ handed_in rules room (history_of old room) pass j
  adds_handed by_pass old new a = ap (λ x. handed_in rules room x pass j) (a.1 room).1 ∙ asking_handed by_pass (a.1 room).0 (history_of old room) (a.1 room).2
