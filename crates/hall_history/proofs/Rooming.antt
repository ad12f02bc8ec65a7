-- What an entry makes of rooms.
use Rattle.std.proofs.Common.{◌≡◌, ◌≤◌, ◌<◌, ◌⊎◌, inl, inr, ℕ, zero, suc, ◌+◌, ◌==◌, true, false, [], ◌∷◌, length, refl, ap, ◌∙◌, arith}
use Rattle.std.proofs.lemmas.Bool.Decides.{nat_tests}
use Rattle.room_history.specs.declared.call.RoomCall.{RoomCall}
use Rattle.room_object.specs.Entry.{Entry}
use Rattle.hall_history.specs.Rooms.{Rooms, history_of, with_entry}

pub same_number : (m n : ℕ) → (m == n) ≡ true → m ≡ n
same_number m n h = grind (arith, nat_tests)

pub is_same : (m : ℕ) → (m == m) ≡ true
is_same m = grind (arith, nat_tests)

pub not_same : (m n : ℕ) → (m == n) ≡ false → m ≡ n → ⊥
not_same m n e f = grind (arith, nat_tests)

other_number : (m n : ℕ) → m + 1 ≤ n → (m == n) ≡ false
other_number m n h = grind (arith, nat_tests)

module _ {X : Type 0} where
  pub same_length : (rooms : Rooms X) (room : ℕ) (e : Entry (RoomCall X)) → length (with_entry rooms room e) ≡ length rooms
  same_length [] room e = refl
  same_length (h ∷ rooms) zero e = refl
  same_length (h ∷ rooms) (suc room) e = ap suc (same_length rooms room e)

  -- a room's history is as before, or has the entry
  pub one_entry : (rooms : Rooms X) (room : ℕ) (e : Entry (RoomCall X)) (r : ℕ)
      → (history_of (with_entry rooms room e) r ≡ history_of rooms r) ⊎ ((room ≡ r) × (history_of (with_entry rooms room e) r ≡ e ∷ history_of rooms r))
  one_entry [] room e r = inl refl
  one_entry (h ∷ rooms) zero e zero = inr (refl, refl)
  one_entry (h ∷ rooms) zero e (suc r) = inl refl
  one_entry (h ∷ rooms) (suc room) e zero = inl refl
  one_entry (h ∷ rooms) (suc room) e (suc r) = further (one_entry rooms room e r)
    where
      further : (history_of (with_entry rooms room e) r ≡ history_of rooms r) ⊎ ((room ≡ r) × (history_of (with_entry rooms room e) r ≡ e ∷ history_of rooms r))
          → (history_of (with_entry rooms room e) r ≡ history_of rooms r) ⊎ ((suc room ≡ suc r) × (history_of (with_entry rooms room e) r ≡ e ∷ history_of rooms r))
      further (inl p) = inl p
      further (inr p) = inr (ap suc p.0, p.1)

  -- a room that is there gets it
  pub gets_entry : (rooms : Rooms X) (room : ℕ) (e : Entry (RoomCall X)) → room < length rooms → history_of (with_entry rooms room e) room ≡ e ∷ history_of rooms room
  gets_entry [] room e l = absurd (omega (arith, l))
  gets_entry (h ∷ rooms) zero e l = refl
  gets_entry (h ∷ rooms) (suc room) e l = gets_entry rooms room e (omega (arith, l))

  pub others_stay : (rooms : Rooms X) (room r : ℕ) (e : Entry (RoomCall X)) → (room == r) ≡ false → history_of (with_entry rooms room e) r ≡ history_of rooms r
  others_stay rooms room r e n = by (one_entry rooms room e r)
    where
      by : (history_of (with_entry rooms room e) r ≡ history_of rooms r) ⊎ ((room ≡ r) × (history_of (with_entry rooms room e) r ≡ e ∷ history_of rooms r)) → history_of (with_entry rooms room e) r ≡ history_of rooms r
      by (inl p) = p
      by (inr p) = absurd (not_same room r n p.0)

  -- the rooms from one on have the histories that they had
  abbrev pub Unasked : Rooms X → Rooms X → ℕ → Type 0
  Unasked old rooms at = (r : ℕ) → at ≤ r → history_of rooms r ≡ history_of old r

  pub still_unasked : (old rooms : Rooms X) (at : ℕ) (e : Entry (RoomCall X)) → Unasked old rooms at → Unasked old (with_entry rooms at e) (at + 1)
  still_unasked old rooms at e u r l = others_stay rooms at r e (other_number at r l) ∙ u r (omega (arith, l))
