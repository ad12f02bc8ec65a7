-- Calls of others, and those of the lobby, leave what a pass's latest session was sent and has done.
use Rattle.std.proofs.Common.{◌≡◌, ◌⊎◌, inl, inr, ◌≤◌, ℕ, ◌==◌, Bool, true, false, if◌then◌else◌, List, [], ◌∷◌, ◌++◌, refl, sym, ap, ◌∙◌, subst, arith}
use Rattle.game_trait.specs.Rules.{Rules}
use Rattle.room_object.specs.Entry.{Entry, entry}
use Rattle.room_history.specs.Room.{room_of}
use Rattle.room_history.specs.Session.{Session}
use Rattle.room_history.specs.declared.call.RoomCall.{RoomCall}
use Rattle.room_history.specs.declared.call.RoomCall.TheVariants as call
use Rattle.hall_history.specs.Adding.{Adds, AreOf}
use Rattle.hall_history.specs.Rooms.{History, Rooms, history_of, with_entry}
use Rattle.hall_history.proofs.Rooming.{one_entry}
use Rattle.world_convergence.proofs.Entries.{IsAside, Stays, asks, entry_stays, nothing, same_stays}
use Rattle.world_convergence.proofs.Fitting.{IsLobby}

-- ---- one after another

pub weaker : (few many : ℕ → ℕ) → ((ticket : ℕ) → few ticket ≤ many ticket) → (old new : List Session) → Stays few old new → Stays many old new
weaker few many h [] new k = k
weaker few many h (s ∷ before) new k = (k.0, k.1, record { sent = k.2.sent; own = λ ticket. omega (arith, k.2.own ticket, h ticket) })

pub then_stays : (weight : ℕ → ℕ) (a b c : List Session) → Stays nothing a b → Stays weight b c → Stays weight a c
then_stays weight [] b c h k = subst (λ l. Stays weight l c) h k
then_stays weight (s ∷ before) b c h k = by (subst (λ l. Stays weight l c) h.1 k)
  where
    by : Stays weight (h.0 ∷ before) c → Stays weight (s ∷ before) c
    by next = (next.0, next.1, record { sent = next.2.sent ∙ h.2.sent; own = λ ticket. omega (arith, next.2.own ticket, h.2.own ticket) })

-- ---- calls that are of no concern to the pass

module _ {X G : Type 0} (rules : X → Rules G) (q : ℕ) where
  abbrev pub sessions_in : Rooms X → ℕ → List Session
  sessions_in rooms r = (room_of rules r (history_of rooms r)).sessions q

  abbrev pub IsForeign : ℕ → RoomCall X → Type 0
  IsForeign pass made = ((pass == q) ≡ false) ⊎ IsLobby made

  lobby_aside : (own : Bool) (made : RoomCall X) → IsLobby made → IsAside own made
  lobby_aside true (call.Create game seats seed) h = tt
  lobby_aside true (call.Join serial seat name key) h = tt
  lobby_aside true (call.Rename serial seat key name) h = tt
  lobby_aside true (call.Leave serial seat key) h = tt
  lobby_aside true (call.Clear serial) h = tt
  lobby_aside true (call.Look serial) h = tt
  lobby_aside true (call.Attach serial viewer protocol) h = absurd h
  lobby_aside true (call.Submit s) h = absurd h
  lobby_aside true call.Take h = absurd h
  lobby_aside true call.Detach h = absurd h
  lobby_aside false made h = tt

  lobby_asks : (own : Bool) (made : RoomCall X) → IsLobby made → (ticket : ℕ) → asks own made ticket ≡ 0
  lobby_asks true (call.Create game seats seed) h ticket = refl
  lobby_asks true (call.Join serial seat name key) h ticket = refl
  lobby_asks true (call.Rename serial seat key name) h ticket = refl
  lobby_asks true (call.Leave serial seat key) h ticket = refl
  lobby_asks true (call.Clear serial) h ticket = refl
  lobby_asks true (call.Look serial) h ticket = refl
  lobby_asks true (call.Attach serial viewer protocol) h ticket = absurd h
  lobby_asks true (call.Submit s) h ticket = absurd h
  lobby_asks true call.Take h ticket = absurd h
  lobby_asks true call.Detach h ticket = absurd h
  lobby_asks false made h ticket = refl

  foreign_aside : (pass : ℕ) (made : RoomCall X) → IsForeign pass made → IsAside (pass == q) made
  foreign_aside pass made (inl other) = subst (λ b. IsAside b made) (sym other) tt
  foreign_aside pass made (inr lobby) = lobby_aside (pass == q) made lobby

  foreign_asks : (pass : ℕ) (made : RoomCall X) → IsForeign pass made → (ticket : ℕ) → asks (pass == q) made ticket ≡ 0
  foreign_asks pass made (inl other) ticket = ap (λ b. asks b made ticket) other
  foreign_asks pass made (inr lobby) ticket = lobby_asks (pass == q) made lobby ticket

  none_if : (b : Bool) (n : ℕ) → n ≡ 0 → (if b then 0 else n) ≤ 0
  none_if true n e = omega arith
  none_if false n e = omega (arith, e)

  foreign_entry : (r : ℕ) (h : History X) (pass : ℕ) (made : RoomCall X) (starved : Bool) → IsForeign pass made
      → Stays nothing ((room_of rules r h).sessions q) ((room_of rules r (entry pass made starved ∷ h)).sessions q)
  foreign_entry r h pass made starved f =
      weaker (λ ticket. if starved then 0 else asks (pass == q) made ticket) nothing (λ ticket. none_if starved (asks (pass == q) made ticket) (foreign_asks pass made f ticket))
      ((room_of rules r h).sessions q) ((room_of rules r (entry pass made starved ∷ h)).sessions q)
      (entry_stays rules r h pass made starved q (foreign_aside pass made f))

  module _ (Asks : RoomCall X → Type 0) (pass : ℕ) (foreign : (made : RoomCall X) → Asks made → IsForeign pass made) where
    foreign_entries : (r : ℕ) (entries : List (Entry (RoomCall X))) (h : History X) → AreOf Asks pass entries → Stays nothing ((room_of rules r h).sessions q) ((room_of rules r (entries ++ h)).sessions q)
    foreign_entries r [] h a = same_stays nothing ((room_of rules r h).sessions q)
    foreign_entries r (e ∷ entries) h a =
        then_stays nothing ((room_of rules r h).sessions q) ((room_of rules r (entries ++ h)).sessions q) ((room_of rules r (e ∷ entries ++ h)).sessions q)
        (foreign_entries r entries h a.2)
        (foreign_entry r (entries ++ h) e.pass e.call e.starved (subst (λ p. IsForeign p e.call) (sym a.0) (foreign e.call a.1)))

    pub foreign_adds : (old new : Rooms X) → Adds Asks pass old new → (r : ℕ) → Stays nothing (sessions_in old r) (sessions_in new r)
    foreign_adds old new a r =
        subst (λ x. Stays nothing (sessions_in old r) ((room_of rules r x).sessions q)) (sym (a.1 r).1) (foreign_entries r (a.1 r).0 (history_of old r) (a.1 r).2)

  pub foreign_call : (rooms : Rooms X) (room pass : ℕ) (made : RoomCall X) (starved : Bool) → IsForeign pass made
      → (r : ℕ) → Stays nothing (sessions_in rooms r) (sessions_in (with_entry rooms room (entry pass made starved)) r)
  foreign_call rooms room pass made starved f r = by (one_entry rooms room (entry pass made starved) r)
    where
      by : (history_of (with_entry rooms room (entry pass made starved)) r ≡ history_of rooms r)
          ⊎ ((room ≡ r) × (history_of (with_entry rooms room (entry pass made starved)) r ≡ entry pass made starved ∷ history_of rooms r))
          → Stays nothing (sessions_in rooms r) ((room_of rules r (history_of (with_entry rooms room (entry pass made starved)) r)).sessions q)
      by (inl e) = subst (λ x. Stays nothing (sessions_in rooms r) ((room_of rules r x).sessions q)) (sym e) (same_stays nothing (sessions_in rooms r))
      by (inr e) = subst (λ x. Stays nothing (sessions_in rooms r) ((room_of rules r x).sessions q)) (sym e.1) (foreign_entry r (history_of rooms r) pass made starved f)
