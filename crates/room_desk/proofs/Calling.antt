-- A seat from the drawing of its ticket to the turn.
use Rattle.std.proofs.Common.{◌≡◌, ℕ, true, false, List, [], ◌∷◌, ◌++◌, Option, Some, None, refl, sym, ap, ◌∙◌, subst}
use Rattle.atomic_table.specs.Table.{Me, rest}
use Rattle.room_object.specs.Entry.{Entry}
use Rattle.room_desk.specs.History.{of_pass}
use Rattle.room_desk.specs.Turns.{View, past, view}
use Rattle.room_desk.specs.Plays.{Takes, Entered, Tells}

pub alone : {A : Type 0} (l : List (ℕ × A)) (x : ℕ × A) → l ≡ x ∷ [] → l ≡ x ∷ rest l
alone l x is = is ∙ ap (λ k. x ∷ rest k) (sym is)

module _ {C O : Type 0} (number : O → ℕ) (stands_for : O → List (Entry C) → Type 0) where
  abbrev pub TakenAs : ℕ → ℕ → ℕ → List (Entry C) → List (Entry C) → Me (Option O) (View C) → Type 0
  TakenAs n p t before seen m = (o : O) × (newer : List (Entry C)) × (number o ≡ n) × (of_pass p newer ≡ []) × stands_for o (newer ++ seen)
      × (m ≡ (view (Some n) (past p before (newer ++ seen) ∷ []) (Some t) true, (0, Some o) ∷ []))

  pub taken_as : (m w : Me (Option O) (View C)) (n p t : ℕ) (before seen : List (Entry C)) → m ≡ (view (Some n) (past p before seen ∷ []) (Some t) false, [])
      → Takes number stands_for m w → TakenAs n p t before seen w
  taken_as m w n p t before seen is takes =
      let h = subst (λ (x : Me (Option O) (View C)). Takes number stands_for x w) is takes in
      (h.0, h.1, cc (h.2), h.3, h.4, h.5)

  -- the object that was in the slot
  pub entered : (w x : Me (Option O) (View C)) (n p t : ℕ) (before seen : List (Entry C)) (found : Option O) (object : O) → TakenAs n p t before seen w
      → w.1 ≡ (0, found) ∷ rest w.1 → found ≡ Some object → x ≡ (w.0, (0, None) ∷ rest w.1) → Entered number stands_for n p before seen object x
  entered w x n p t before seen found object taken there unwrapped out =
      let pair : ℕ × Option O = (0, Some taken.0) in
      let other : ℕ × Option O = (0, found) in
      let slot : w.1 ≡ pair ∷ [] = ap (λ (m : Me (Option O) (View C)). m.1) taken.5 in
      let both : pair ≡ other = cc (slot, there) in
      let filled : Some taken.0 ≡ found = ap (λ (q : ℕ × Option O). q.1) both in
      let same : taken.0 ≡ object = cc (filled, unwrapped) in
      let history = taken.1 ++ seen in
      (taken.1, sym (ap number same) ∙ taken.2, taken.3, subst (λ o. stands_for o history) same taken.4, (t, out ∙ ap (λ (m : Me (Option O) (View C)). (m.0, (0, None) ∷ rest m.1)) taken.5))

  -- the object has taken the call, and is to be put back
  pub tells : (m : Me (Option O) (View C)) (n p : ℕ) (before seen : List (Entry C)) (o after : O) (e : Entry C) (h : Entered number stands_for n p before seen o m)
      → e.pass ≡ p → number after ≡ number o → stands_for after (e ∷ (h.0 ++ seen)) → Tells number stands_for after e m
  tells m n p before seen o after e h by same stands =
      let name : Some n ≡ Some (number after) = ap (λ (k : ℕ). Some k) (sym (same ∙ h.1)) in
      subst (λ (x : Me (Option O) (View C)). Tells number stands_for after e x) (sym h.4.1) (name, sym by, refl, refl, stands)

  -- the seat with the object in its slot again
  pub put_in : (m x : Me (Option O) (View C)) (o : O) → m.1 ≡ (0, None) ∷ [] → x ≡ (m.0, (0, Some o) ∷ rest m.1) → x ≡ (m.0, (0, Some o) ∷ [])
  put_in m x o empty back = back ∙ ap (λ (l : List (ℕ × Option O)). (m.0, (0, Some o) ∷ rest l)) empty
