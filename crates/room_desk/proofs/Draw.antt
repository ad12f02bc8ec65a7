-- Drawing a ticket keeps the rule.
use Rattle.std.proofs.Common.{◌≡◌, ◌≢◌, ℕ, ◌+◌, ◌%◌, ◌^◌, ◌<◌, Bool, true, false, List, [], ◌∷◌, length, set, get_or, Option, Some, None, refl, ap, ◌∙◌, inl, inr, ⊎_elim, arith}
use Rattle.std.proofs.Math.Nat.{mod-add-mod}
use mathlib.Core.Option.{some, none}
use lib.ListN.{get_elem?}
use Rattle.atomic_table.specs.Table.{State, Me, Allows, step, stepped, keeps}
use Rattle.room_object.specs.Entry.{Entry}
use Rattle.room_desk.specs.Turns.{View, Fits, Turns, Desked, pasts_of, tickets_of, how_many, view, fresh}
use Rattle.room_desk.specs.Plays.{Draws}
use Rattle.room_desk.proofs.Totals.{total_set, only_one}
use Rattle.room_desk.proofs.Seats.{elsewhere, each_set, kept_at, apart_set, holder_set}

module _ {C O : Type 0} (number : O → ℕ) (stands_for : O → List (Entry C) → Type 0) where
  -- a seat that has noted the number is one of an open desk
  pub opened : (count : ℕ) (s : State (Option O) (View C)) (id n : ℕ) (v : View C) → Desked number stands_for count s → get_elem? s.views id ≡ some v → v.object ≡ Some n → Turns number stands_for count s
  opened count s id n v rule at named =
      let closed : (b : Bool) → s.views ≡ view None (fresh [] 0 count) None b ∷ [] → ⊥ =
      λ b is. let same = only_one s.views (view None (fresh [] 0 count) None b) v id is at in absurd (cc (ap (λ (u : View C). u.object) same, named)) in
      ⊎_elim (⊎_elim (λ u. absurd (closed false u.1)) (λ u. absurd (closed true u.1))) (λ t. t) rule

  -- a seat with passes, without a ticket, takes the next one
  pub draws : (count slots id n : ℕ) (m : Me (Option O) (View C)) → m.0.object ≡ Some n → m.0.ticket ≡ None → m.0.turn ≡ false → 0 < length m.0.pasts
      → Allows (Desked number stands_for count) slots id m 0 (λ k. (k + 1) % 2 ^ 64) (Draws (step slots 0 1 0 none) m)
  draws count slots id n m named idle still holds s rule long at wide =
      let g = opened count s id n m.0 rule at named in
      let v : View C = m.0 in
      let w : View C = view v.object v.pasts (Some g.drawn) false in
      let none_yet : tickets_of v ≡ 0 = ap how_many idle in
      let more = total_set tickets_of s.views id v w at in
      let same = total_set pasts_of s.views id v w at in
      let fit = g.fits id v at in
      let first : get_or s.words 0 0 ≡ g.drawn % 2 ^ 64 = ap (λ (ws : List ℕ). get_or ws 0 0) g.words in
      let next : (get_or s.words 0 0 + 1) % 2 ^ 64 ≡ (g.drawn + 1) % 2 ^ 64 = ap (λ k. (k + 1) % 2 ^ 64) first ∙ mod-add-mod g.drawn (2 ^ 64) 1 in
      let views' = set s.views id w in
      let others : (j : ℕ) (u : View C) → j ≢ id → get_elem? s.views j ≡ some u → Fits g.name g.past g.log g.turns (g.drawn + 1) g.seat_of j u =
      λ j u ne e. let f = g.fits j u e in record { named = f.named; own = f.own; distinct = f.distinct; ticket = λ t is. ((f.ticket t is).0, let lt = (f.ticket t is).1 in omega arith); owned = f.owned; turn = f.turn } in
      let mine : Fits g.name g.past g.log g.turns (g.drawn + 1) g.seat_of id w = record {
        named = fit.named;
        own = fit.own;
        distinct = fit.distinct;
        ticket = λ t is. let eq : g.drawn ≡ t = cc (is) in let sum = g.tickets in (omega arith, omega arith);
        owned = holds;
        turn = λ is. absurd (cc (is));
      } in
      let after : Turns number stands_for count (stepped s 0 ((get_or s.words 0 0 + 1) % 2 ^ 64) id m.1 w keeps) = record {
        name = g.name;
        past = g.past;
        later = g.later;
        log = g.log;
        split = g.split;
        turns = g.turns;
        drawn = g.drawn + 1;
        seat_of = g.seat_of;
        words = ap (λ (ws : List ℕ). set ws 0 ((get_or s.words 0 0 + 1) % 2 ^ 64)) g.words ∙ ap (λ k. k ∷ (g.turns % 2 ^ 64) ∷ []) next;
        pasts = let sum = g.pasts in omega arith;
        small = g.small;
        tickets = let sum = g.tickets in omega arith;
        fits = each_set (Fits g.name g.past g.log g.turns (g.drawn + 1) g.seat_of) s.views id w mine others;
        apart = apart_set s.views id w g.apart (λ j u t ne e is mine_is. let eq : g.drawn ≡ t = cc (mine_is) in let lt = ((g.fits j u e).ticket t is).1 in omega arith);
        known = λ p. ⊎_elim inl (λ h. inr (holder_set s.views id (g.seat_of p) v w p at (λ x. x) h)) (g.known p);
        slot = ⊎_elim
            (λ h. inl (h.0, h.1, h.2, h.3, each_set (λ j (u : View C). u.turn ≡ false) s.views id w refl (λ j u ne e. h.4 j u e)))
            (λ h. let ne = elsewhere s.views h.1.0 id h.1.1 v h.1.2 at h.1.3 still in
            inr (h.0, (h.1.0, h.1.1, kept_at s.views id h.1.0 w h.1.1 ne h.1.2, h.1.3)))
            g.slot;
      } in
      (w, keeps, tt, inr after, (g.drawn, first, refl))
