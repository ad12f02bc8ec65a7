-- Facts of every seat, after one seat's view is set or a seat is added.
use Rattle.std.proofs.Common.{◌≡◌, ◌≢◌, ℕ, Bool, true, false, List, [], ◌∷◌, ◌++◌, length, set, Some, None, refl, ap, sym, ◌∙◌, subst, ⊎_elim}
use mathlib.Core.Logic.{dite}
use mathlib.Core.Option.{some, some-injective}
use native.Mathlib.Decide.{ℕ_discrete}
use lib.ListN.{get_elem?}
use Rattle.atomic_table.proofs.Lists.{at_set, set_here, set_else}
use Rattle.room_desk.specs.Turns.{Past, View, Has, Holder}
use Rattle.room_desk.proofs.Totals.{length_at, added_at}

pub never_true : (b : Bool) → (b ≡ true → ⊥) → b ≡ false
never_true true no_ = absurd (no_ refl)
never_true false no_ = refl

module _ {A : Type 0} where
  -- a fact of each seat, where seat i is set
  pub each_set : (P : ℕ → A → Type 0) (l : List A) (i : ℕ) (w : A) → P i w → ((j : ℕ) (v : A) → j ≢ i → get_elem? l j ≡ some v → P j v)
      → (j : ℕ) (v : A) → get_elem? (set l i w) j ≡ some v → P j v
  each_set P l i w here else j v e = ⊎_elim (λ t. subst (λ k. P k v) (sym t.0) (subst (λ u. P i u) t.1 here)) (λ t. else j v t.0 t.1) (at_set l i j w v e)

  -- a fact of each seat, where one is added
  pub each_snoc : (P : ℕ → A → Type 0) (l : List A) (w : A) → P (length l) w → ((j : ℕ) (v : A) → get_elem? l j ≡ some v → P j v)
      → (j : ℕ) (v : A) → get_elem? (l ++ w ∷ []) j ≡ some v → P j v
  each_snoc P l w here else j v e = ⊎_elim (else j v) (λ t. subst (λ k. P k v) (sym t.0) (subst (λ u. P (length l) u) t.1 here)) (added_at l w v j e)

  -- a seat that isn't seat i stays
  pub kept_at : (l : List A) (i j : ℕ) (w v : A) → j ≢ i → get_elem? l j ≡ some v → get_elem? (set l i w) j ≡ some v
  kept_at l i j w v n e = set_else l i j w n ∙ e

  pub at_once : (l : List A) (i : ℕ) (v w : A) → get_elem? l i ≡ some v → get_elem? l i ≡ some w → v ≡ w
  at_once l i v w e d = some-injective v w (sym e ∙ d)

module _ {C : Type 0} where
  -- a seat that holds the turn isn't one that doesn't
  pub elsewhere : (l : List (View C)) (i j : ℕ) (u v : View C) → get_elem? l i ≡ some u → get_elem? l j ≡ some v → u.turn ≡ true → v.turn ≡ false → i ≢ j
  elsewhere l i j u v e d turn still is =
      let same : u ≡ v = at_once l j u v (subst (λ k. get_elem? l k ≡ some u) is e) d in absurd (cc (ap (λ (x : View C). x.turn) same, turn, still))

  -- no two seats have one ticket
  abbrev pub Apart : List (View C) → Type 0
  Apart views = (i j : ℕ) (v w : View C) (t : ℕ) → get_elem? views i ≡ some v → get_elem? views j ≡ some w → v.ticket ≡ Some t → w.ticket ≡ Some t → i ≡ j

  -- seat k is set to a view whose ticket no other seat has
  pub apart_set : (l : List (View C)) (k : ℕ) (w : View C) → Apart l
      → ((j : ℕ) (v : View C) (t : ℕ) → j ≢ k → get_elem? l j ≡ some v → v.ticket ≡ Some t → w.ticket ≡ Some t → ⊥) → Apart (set l k w)
  apart_set l k w apart new i j u v t e d p q =
      ⊎_elim
      (λ a. ⊎_elim (λ b. a.0 ∙ sym b.0) (λ b. absurd (new j v t b.0 b.1 q (ap (λ (x : View C). x.ticket) a.1 ∙ p))) (at_set l k j w v d))
      (λ a. ⊎_elim (λ b. absurd (new i u t a.0 a.1 p (ap (λ (x : View C). x.ticket) b.1 ∙ q))) (λ b. apart i j u v t a.1 b.1 p q) (at_set l k j w v d))
      (at_set l k i w u e)

  -- a seat without a ticket is added
  pub apart_snoc : (l : List (View C)) (w : View C) → Apart l → w.ticket ≡ None → Apart (l ++ w ∷ [])
  apart_snoc l w apart none_ i j u v t e d p q =
      ⊎_elim
      (λ a. ⊎_elim (λ b. apart i j u v t a b p q) (λ b. absurd (cc (none_, ap (λ (x : View C). x.ticket) b.1, q))) (added_at l w v j d))
      (λ a. absurd (cc (none_, ap (λ (x : View C). x.ticket) a.1, p)))
      (added_at l w u i e)

  -- who has a pass keeps it where a seat is set to a view that has the passes that the seat had
  pub holder_set : (l : List (View C)) (k j : ℕ) (v w : View C) (p : ℕ) → get_elem? l k ≡ some v
      → (((x : Past C) × Has v.pasts x × (x.number ≡ p)) → (x : Past C) × Has w.pasts x × (x.number ≡ p)) → Holder l j p → Holder (set l k w) j p
  holder_set l k j v w p e move h =
      dite (ℕ_discrete j k)
      (λ is. let same : h.0 ≡ v = at_once l k h.0 v (subst (λ i. get_elem? l i ≡ some h.0) is h.1) e in
      let here : get_elem? (set l k w) j ≡ some w = subst (λ i. get_elem? (set l k w) i ≡ some w) (sym is) (set_here l k w (length_at l k v e)) in
      (w, here, move (subst (λ (u : View C). (x : Past C) × Has u.pasts x × (x.number ≡ p)) same h.2)))
      (λ not. (h.0, kept_at l k j w h.0 not h.1, h.2))
