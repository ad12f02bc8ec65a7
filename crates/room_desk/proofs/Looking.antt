-- Looking at the whole history keeps the rule.
use Rattle.std.proofs.Common.{◌≡◌, ℕ, false, List, [], ◌∷◌, ◌++◌, length, set, get_or, Option, Some, None, refl, ap, sym, ◌∙◌, subst, inl, inr, ⊎_elim, arith}
use mathlib.Core.Option.{none}
use Rattle.atomic_table.specs.Table.{Me, Allows, step, stepped, keeps}
use Rattle.room_object.specs.Entry.{Entry}
use Rattle.room_desk.specs.History.{of_pass, Begins}
use Rattle.room_desk.specs.Turns.{Past, View, Fits, Turns, Desked, Has, Distinct, pasts_of, tickets_of, past, view, number_in, before_in, seen_in}
use Rattle.room_desk.specs.Plays.{Looks, Rests, noted, other_pasts, joined}
use Rattle.room_desk.proofs.Totals.{total_set}
use Rattle.room_desk.proofs.Seats.{elsewhere, each_set, kept_at, apart_set, holder_set}
use Rattle.room_desk.proofs.Draw.{opened}

module _ {C O : Type 0} where
  -- a seat between two calls that took in another's pass
  pub together : (m o x : Me (Option O) (View C)) → Rests (number_in m.0.pasts) m → Rests (number_in o.0.pasts) o → x ≡ (joined m.0 o.0, m.1)
      → x ≡ (view (Some (noted m.0.object)) (past (number_in o.0.pasts) (before_in o.0.pasts) (seen_in o.0.pasts) ∷ past (number_in m.0.pasts) (before_in m.0.pasts) (seen_in m.0.pasts) ∷ []) None false, [])
  together m o x rests other is = is ∙ (λ i. (view (rests i).0.object ((other i).0.pasts ++ (rests i).0.pasts) (rests i).0.ticket (rests i).0.turn, (rests i).1))

module _ {C O : Type 0} (number : O → ℕ) (stands_for : O → List (Entry C) → Type 0) where
  -- a seat of two passes, without ticket or turn, looks
  pub looks : (count slots id n : ℕ) (x y : Past C) (m : Me (Option O) (View C)) → m.0.object ≡ Some n → m.0.pasts ≡ x ∷ y ∷ [] → m.0.ticket ≡ None → m.0.turn ≡ false
      → Allows (Desked number stands_for count) slots id m 0 (λ k. k) (Looks (step slots 0 0 0 none) m)
  looks count slots id n x y m named two idle still s rule long at wide =
      let g = opened number stands_for count s id n m.0 rule at named in
      let v : View C = m.0 in
      let fit = g.fits id v at in
      let first = fit.own x (subst (λ (l : List (Past C)). Has l x) (sym two) (inl refl)) in
      let second = fit.own y (subst (λ (l : List (Past C)). Has l y) (sym two) (inr (inl refl))) in
      let told : Past C = past x.number x.before g.log in
      let w : View C = view v.object (told ∷ y ∷ []) v.ticket v.turn in
      let distinct : Distinct (x ∷ y ∷ []) = subst (λ (l : List (Past C)). Distinct l) two fit.distinct in
      let size : length v.pasts ≡ 2 = ap length two in
      let sums = total_set pasts_of s.views id v w at in
      let outs = total_set tickets_of s.views id v w at in
      let mine : Fits g.name g.past g.log g.turns g.drawn g.seat_of id w = record {
        named = λ some_past. fit.named (omega arith);
        own = λ z has. ⊎_elim
            (λ is. subst (λ (u : Past C). (g.seat_of u.number ≡ id) × Begins g.log u.seen × (of_pass u.number g.log ≡ of_pass u.number u.seen) × Begins u.seen g.past × (u.before ≡ g.past)) is
            (first.0, ([], refl), refl, (g.later, g.split), first.4))
            (λ t. fit.own z (subst (λ (l : List (Past C)). Has l z) (sym two) (inr t)))
            has;
        distinct = (distinct.0, distinct.1);
        ticket = fit.ticket;
        owned = let owned = fit.owned in omega arith;
        turn = λ is. absurd (cc (sym is ∙ still));
      } in
      let after : Turns number stands_for count (stepped s 0 (get_or s.words 0 0) id m.1 w keeps) = record {
        name = g.name;
        past = g.past;
        later = g.later;
        log = g.log;
        split = g.split;
        turns = g.turns;
        drawn = g.drawn;
        seat_of = g.seat_of;
        words = ap (λ (ws : List ℕ). set ws 0 (get_or ws 0 0)) g.words;
        pasts = let sum = g.pasts in omega arith;
        small = g.small;
        tickets = let sum = g.tickets in omega arith;
        fits = each_set (Fits g.name g.past g.log g.turns g.drawn g.seat_of) s.views id w mine (λ j u ne e. g.fits j u e);
        apart = apart_set s.views id w g.apart (λ j u t ne e a b. cc (b, idle));
        known = λ q. ⊎_elim inl (λ h. inr (holder_set s.views id (g.seat_of q) v w q at
            (λ z. ⊎_elim
            (λ is. (told, inl refl, ap (λ (u : Past C). u.number) is ∙ z.2))
            (λ t. (z.0, inr t, z.2))
            (subst (λ (l : List (Past C)). Has l z.0) two z.1)) h)) (g.known q);
        slot = ⊎_elim
            (λ h. inl (h.0, h.1, h.2, h.3, each_set (λ j (u : View C). u.turn ≡ false) s.views id w still (λ j u ne e. h.4 j u e)))
            (λ h. let ne = elsewhere s.views h.1.0 id h.1.1 v h.1.2 at h.1.3 still in
            inr (h.0, (h.1.0, h.1.1, kept_at s.views id h.1.0 w h.1.1 ne h.1.2, h.1.3)))
            g.slot;
      } in
      let told_is : (w, m.1) ≡ (view v.object (past (number_in v.pasts) (before_in v.pasts) g.log ∷ other_pasts v.pasts) v.ticket v.turn, m.1) =
      ap (λ (l : List (Past C)). (view v.object (past (number_in l) (before_in l) g.log ∷ other_pasts l) v.ticket v.turn, m.1)) (sym two) in
      let begins_first : Begins g.log (seen_in v.pasts) = subst (λ (l : List (Past C)). Begins g.log (seen_in l)) (sym two) first.1 in
      let begins_second : Begins g.log (seen_in (other_pasts v.pasts)) = subst (λ (l : List (Past C)). Begins g.log (seen_in (other_pasts l))) (sym two) second.1 in
      (w, keeps, tt, inr after, (g.log, begins_first, begins_second, told_is))
