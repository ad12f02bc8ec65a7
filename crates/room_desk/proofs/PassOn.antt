-- Passing the turn on, with one more entry in the history, keeps the rule.
use Rattle.std.proofs.Common.{◌≡◌, ◌≢◌, ℕ, ◌+◌, ◌%◌, ◌^◌, ◌⊎◌, true, false, List, [], ◌∷◌, length, set, get_or, Option, Some, None, refl, ap, sym, ◌∙◌, subst, inl, inr, ⊎_elim, arith}
use Rattle.std.proofs.Math.Nat.{mod-add-mod}
use mathlib.Core.Logic.{dite}
use mathlib.Core.Option.{some, none}
use mathlib.Core.Option as maybe
use native.Mathlib.Decide.{ℕ_discrete}
use lib.ListN.{get_elem?}
use Rattle.atomic_table.specs.Table.{State, Me, Allows, step, stepped, gives, put_back}
use Rattle.atomic_table.proofs.Lists.{set_here}
use Rattle.room_object.specs.Entry.{Entry}
use Rattle.room_desk.specs.History.{of_pass, Begins}
use Rattle.room_desk.specs.Turns.{Past, View, Fits, Turns, Desked, Holder, Has, pasts_of, tickets_of, how_many, past, view, number_in, before_in, seen_in}
use Rattle.room_desk.specs.Plays.{Passes}
use Rattle.room_desk.proofs.Totals.{total_set, length_at}
use Rattle.room_desk.proofs.Seats.{never_true, each_set, apart_set, holder_set}
use Rattle.room_desk.proofs.Histories.{other_entry, begins_more}
use Rattle.room_desk.proofs.Draw.{opened}

module _ {C O : Type 0} (number : O → ℕ) (stands_for : O → List (Entry C) → Type 0) where
  -- who holds the turn made a call on the object, which the entry tells
  pub passes : (count slots id : ℕ) (m : Me (Option O) (View C)) (o : O) (e : Entry C) → m.0.object ≡ Some (number o) → e.pass ≡ number_in m.0.pasts → m.0.turn ≡ true → m.1 ≡ (0, Some o) ∷ []
      → stands_for o (e ∷ seen_in m.0.pasts) → Allows (Desked number stands_for count) slots id m 1 (λ n. (n + 1) % 2 ^ 64) (Passes (e ∷ []) (step slots 1 1 0 none) m)
  passes count slots id m o e named by turn out stands s rule long at wide =
      let g = opened number stands_for count s id (number o) m.0 rule at named in
      let v : View C = m.0 in
      let p = number_in v.pasts in
      let before = before_in v.pasts in
      let fit = g.fits id v at in
      let mine = fit.turn turn in
      let log' = e ∷ g.log in
      let later' = e ∷ g.later in
      let w : View C = view v.object (past p before (e ∷ seen_in v.pasts) ∷ []) None false in
      let seen : seen_in v.pasts ≡ g.log = ap seen_in mine.1 in
      let own_past : Has v.pasts (past p before g.log) = subst (λ (l : List (Past C)). Has l (past p before g.log)) (sym mine.1) (inl refl) in
      let own_before = fit.own (past p before g.log) own_past in
      let place : g.seat_of p ≡ id = own_before.0 in
      let one : length v.pasts ≡ 1 = ap length mine.1 in
      let held : tickets_of v ≡ 1 = ap how_many mine.0 in
      let sums = total_set pasts_of s.views id v w at in
      let outs = total_set tickets_of s.views id v w at in
      let name_is : number o ≡ g.name = cc (sym named ∙ fit.named (omega arith)) in
      let next : get_or s.words 1 0 ≡ g.turns % 2 ^ 64 = ap (λ (ws : List ℕ). get_or ws 1 0) g.words in
      let after_next : (get_or s.words 1 0 + 1) % 2 ^ 64 ≡ (g.turns + 1) % 2 ^ 64 = ap (λ k. (k + 1) % 2 ^ 64) next ∙ mod-add-mod g.turns (2 ^ 64) 1 in
      let still : (j : ℕ) (u : View C) → j ≢ id → get_elem? s.views j ≡ some u → u.turn ≡ false =
      λ j u ne d. never_true u.turn (λ t. ne (g.apart j id u v g.turns d at ((g.fits j u d).turn t).0 mine.0)) in
      let others : (j : ℕ) (u : View C) → j ≢ id → get_elem? s.views j ≡ some u → Fits g.name g.past log' (g.turns + 1) g.drawn g.seat_of j u =
      λ j u ne d. let f = g.fits j u d in record {
        named = f.named;
        own = λ x h. let f' = f.own x h in
            let not : e.pass ≢ x.number = λ is. ne (sym f'.0 ∙ (ap g.seat_of (sym is ∙ by) ∙ place)) in
            (f'.0, begins_more e g.log x.seen f'.1, other_entry x.number e g.log not ∙ f'.2, f'.3, f'.4);
        distinct = f.distinct;
        ticket = λ t is. let range = f.ticket t is in
            let not : t ≢ g.turns = λ eq. ne (g.apart j id u v g.turns d at (is ∙ ap (λ (i : ℕ). Some i) eq) mine.0) in
            (omega arith, range.1);
        owned = f.owned;
        turn = λ t. absurd (cc (sym t ∙ still j u ne d));
      } in
      let fit' : Fits g.name g.past log' (g.turns + 1) g.drawn g.seat_of id w = record {
        named = λ some_past. fit.named (omega arith);
        own = λ x h. ⊎_elim (λ is. subst (λ (y : Past C). (g.seat_of y.number ≡ id) × Begins log' y.seen × (of_pass y.number log' ≡ of_pass y.number y.seen) × Begins y.seen g.past × (y.before ≡ g.past)) is
            (place, ([], ap (λ (l : List (Entry C)). e ∷ l) (sym seen)), ap (λ (l : List (Entry C)). of_pass p (e ∷ l)) (sym seen), begins_more e (seen_in v.pasts) g.past (g.later, seen ∙ g.split), own_before.4)) (λ f. absurd f) h;
        distinct = (λ y has. absurd has, tt);
        ticket = λ t is. absurd (cc (is));
        owned = omega arith;
        turn = λ t. absurd (cc (t));
      } in
      let here : get_elem? (set s.views id w) id ≡ some w = set_here s.views id w (length_at s.views id v at) in
      let known : (q : ℕ) → (of_pass q later' ≡ []) ⊎ Holder (set s.views id w) (g.seat_of q) q =
      λ q. dite (ℕ_discrete q p)
      (λ is. inr (w, subst (λ k. get_elem? (set s.views id w) k ≡ some w) (sym (ap g.seat_of is ∙ place)) here, (past p before (e ∷ seen_in v.pasts), inl refl, sym is)))
      (λ not. ⊎_elim (λ none_. inl (other_entry q e g.later (λ is. not (sym is ∙ by)) ∙ none_))
      (λ h. inr (holder_set s.views id (g.seat_of q) v w q at (λ x. (past p before (e ∷ seen_in v.pasts), inl refl, ⊎_elim (λ is. ap (λ (y : Past C). y.number) is ∙ x.2) (λ f. absurd f) (subst (λ (l : List (Past C)). Has l x.0) mine.1 x.1))) h)) (g.known q)) in
      let is_out : s.homes ≡ none ∷ [] = ⊎_elim (λ h. absurd (cc (sym turn ∙ h.4 id v at))) (λ h. h.0) g.slot in
      let homes : put_back s.homes m.1 ≡ some (Some o) ∷ [] =
      ap (λ (c : List (ℕ × Option O)). put_back s.homes c) out ∙ ap (λ (hs : List (maybe.Option (Option O))). set hs 0 (some (Some o))) is_out in
      let after : Turns number stands_for count (stepped s 1 ((get_or s.words 1 0 + 1) % 2 ^ 64) id m.1 w gives) = record {
        name = g.name;
        past = g.past;
        later = later';
        log = log';
        split = ap (λ (l : List (Entry C)). e ∷ l) g.split;
        turns = g.turns + 1;
        drawn = g.drawn;
        seat_of = g.seat_of;
        words = ap (λ (ws : List ℕ). set ws 1 ((get_or s.words 1 0 + 1) % 2 ^ 64)) g.words ∙ ap (λ (k : ℕ). (g.drawn % 2 ^ 64) ∷ k ∷ []) after_next;
        pasts = let sum = g.pasts in omega arith;
        small = g.small;
        tickets = let sum = g.tickets in omega arith;
        fits = each_set (Fits g.name g.past log' (g.turns + 1) g.drawn g.seat_of) s.views id w fit' others;
        apart = apart_set s.views id w g.apart (λ j u t ne d a b. absurd (cc (b)));
        known = known;
        slot = inl (o, homes, name_is, subst (λ (l : List (Entry C)). stands_for o (e ∷ l)) seen stands, each_set (λ j (u : View C). u.turn ≡ false) s.views id w refl (λ j u ne d. still j u ne d));
      } in
      let left : (w, Rattle.atomic_table.specs.Table.rest m.1) ≡ (w, []) = λ i. (w, Rattle.atomic_table.specs.Table.rest (out i)) in
      (w, gives, tt, inr after, left)
