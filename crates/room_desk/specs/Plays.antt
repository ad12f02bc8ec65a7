-- What each step on a desk's table tells the caller that makes it, and how seats are split and joined.
use Rattle.std.specs.Prelude.{ℕ, ◌≡◌, ◌%◌, ◌^◌, ◌==◌, true, false, List, [], ◌∷◌, ◌++◌, Option, Some, None, MatchBool}
use Rattle.atomic_table.specs.Table.{Me, Step}
use Rattle.room_object.specs.Entry.{Entry}
use Rattle.room_desk.specs.History.{Held, of_pass, Begins}
use Rattle.room_desk.specs.Turns.{Past, View, Has, past, view, told, number_in, before_in, seen_in}

-- the number that a seat noted
abbrev pub noted : Option ℕ → ℕ
noted None = 0
noted (Some name) = name

module _ {C : Type 0} where
  -- a split gives the first pass away
  abbrev pub first_past : List (Past C) → List (Past C)
  first_past [] = []
  first_past (x ∷ xs) = x ∷ []

  abbrev pub other_pasts : List (Past C) → List (Past C)
  other_pasts [] = []
  other_pasts (x ∷ xs) = xs

  abbrev pub left_of : View C → View C
  left_of v = view v.object (other_pasts v.pasts) v.ticket v.turn

  abbrev pub right_of : View C → View C
  right_of v = view v.object (first_past v.pasts) None false

  -- a join puts the second seat's passes before the first's, and leaves the second with none
  abbrev pub joined : View C → View C → View C
  joined v w = view v.object (w.pasts ++ v.pasts) v.ticket v.turn

  abbrev pub spent : View C
  spent = view None [] None false

  -- what a pass is among the pasts of a seat
  abbrev pub past_of : Held C → Past C
  past_of p = past p.number p.before p.seen

  -- the history that these pasts have together, which goes on from what came before, as each of them has it
  pub record United (pasts : List (Past C)) (h : List (Entry C)) : Type 0 where
    pub before : List (Entry C)
    pub later : List (Entry C)
    pub split : h ≡ later ++ before
    pub each : (x : Past C) → Has pasts x → Begins h x.seen × (of_pass x.number h ≡ of_pass x.number x.seen) × Begins x.seen before × (x.before ≡ before)
    pub no_others : (e : Entry C) → Has later e → (x : Past C) × Has pasts x × (x.number ≡ e.pass)

module _ {C O : Type 0} where
  -- the empty slot is taken, to put the object in
  abbrev pub Reaches : Step (Option O) → Me (Option O) (View C) → ℕ → Me (Option O) (View C) → Type 0
  Reaches st m found n = n ≡ (view m.0.object m.0.pasts m.0.ticket true, (0, None) ∷ [])

  -- The slot is given back with the object in it, whose number is noted. It stands for a history, which came before and which all passes have seen.
  abbrev pub Opens : (O → ℕ) → (O → List (Entry C) → Type 0) → Step (Option O) → Me (Option O) (View C) → ℕ → Me (Option O) (View C) → Type 0
  Opens number stands_for st m found n = (o : O) × (seen : List (Entry C)) × (m.1 ≡ (0, Some o) ∷ []) × stands_for o seen
      × (n ≡ (view (Some (number o)) (told seen m.0.pasts) None false, []))

  -- a ticket is drawn
  abbrev pub Draws : Step (Option O) → Me (Option O) (View C) → ℕ → Me (Option O) (View C) → Type 0
  Draws st m found n = (t : ℕ) × (found ≡ t % 2 ^ 64) × (n ≡ (view m.0.object m.0.pasts (Some t) false, m.1))

  -- the first of a seat's passes sees the whole history, which begins as what it had seen, and as what the second had
  abbrev pub Looks : Step (Option O) → Me (Option O) (View C) → ℕ → Me (Option O) (View C) → Type 0
  Looks st m found n = (log : List (Entry C)) × Begins log (seen_in m.0.pasts) × Begins log (seen_in (other_pasts m.0.pasts))
      × (n ≡ (view m.0.object (past (number_in m.0.pasts) (before_in m.0.pasts) log ∷ other_pasts m.0.pasts) m.0.ticket m.0.turn, m.1))

  -- The turn is taken, and the slot with it: other passes' entries came on top of what the pass had seen, and the object stands for the whole history.
  abbrev pub Takes : (O → ℕ) → (O → List (Entry C) → Type 0) → Me (Option O) (View C) → Me (Option O) (View C) → Type 0
  Takes number stands_for m n = (o : O) × (newer : List (Entry C)) × (m.0.object ≡ Some (number o)) × (of_pass (number_in m.0.pasts) newer ≡ []) × stands_for o (newer ++ seen_in m.0.pasts)
      × (n ≡ (view m.0.object (past (number_in m.0.pasts) (before_in m.0.pasts) (newer ++ seen_in m.0.pasts) ∷ []) m.0.ticket true, (0, Some o) ∷ []))

  -- the turn is taken where the word is the ticket; else nothing changes
  abbrev pub Tries : (O → ℕ) → (O → List (Entry C) → Type 0) → Step (Option O) → Me (Option O) (View C) → ℕ → Me (Option O) (View C) → Type 0
  Tries number stands_for st m found n = MatchBool (found == st.first) (Takes number stands_for m n) (n ≡ m)

  -- the turn is passed on, and the slot given back: what was said is seen on top of the history
  abbrev pub Passes : List (Entry C) → Step (Option O) → Me (Option O) (View C) → ℕ → Me (Option O) (View C) → Type 0
  Passes said st m found n = n ≡ (view m.0.object (past (number_in m.0.pasts) (before_in m.0.pasts) (said ++ seen_in m.0.pasts) ∷ []) None false, [])

  -- a seat between two calls of the pass of this number: without ticket, turn or slot
  abbrev pub Rests : ℕ → Me (Option O) (View C) → Type 0
  Rests number m = m ≡ (view (Some (noted m.0.object)) (past number (before_in m.0.pasts) (seen_in m.0.pasts) ∷ []) None false, [])

  -- a seat of one pass, with this ticket
  abbrev pub Waits : ℕ → Me (Option O) (View C) → Type 0
  Waits ticket m = (t : ℕ) × (ticket ≡ t % 2 ^ 64)
      × (m ≡ (view (Some (noted m.0.object)) (past (number_in m.0.pasts) (before_in m.0.pasts) (seen_in m.0.pasts) ∷ []) (Some t) false, []))

  -- The pass that had seen this much of the history has the turn, and its object was taken out: other passes' entries came on top, and the object stands for the whole history.
  abbrev pub Entered : (O → ℕ) → (O → List (Entry C) → Type 0) → ℕ → ℕ → List (Entry C) → List (Entry C) → O → Me (Option O) (View C) → Type 0
  Entered number stands_for name pass before seen o m = (newer : List (Entry C)) × (number o ≡ name) × (of_pass pass newer ≡ []) × stands_for o (newer ++ seen)
      × ((t : ℕ) × (m ≡ (view (Some name) (past pass before (newer ++ seen) ∷ []) (Some t) true, (0, None) ∷ [])))

  -- the object to be put back stands for the whole history with this entry on top, which is to be told
  abbrev pub Tells : (O → ℕ) → (O → List (Entry C) → Type 0) → O → Entry C → Me (Option O) (View C) → Type 0
  Tells number stands_for o e m = (m.0.object ≡ Some (number o)) × (number_in m.0.pasts ≡ e.pass) × (m.0.turn ≡ true) × (m.1 ≡ (0, None) ∷ []) × stands_for o (e ∷ seen_in m.0.pasts)
