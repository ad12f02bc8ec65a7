-- Splitting a pass off a seat, and joining two seats, keep the rule.
use Rattle.std.proofs.Common.{◌≡◌, ◌≢◌, ℕ, ◌+◌, ◌<◌, ◌⊎◌, ◌==◌, cond, false, List, [], ◌∷◌, ◌++◌, length, set, Some, None, refl, ap, sym, ◌∙◌, subst, inl, inr, ⊎_elim, arith, eq-eqb, ne_eqb, length-append, length-set}
use mathlib.Core.Logic.{dite}
use mathlib.Core.Option.{some}
use native.Mathlib.Decide.{ℕ_discrete}
use lib.ListN.{get_elem?}
use Rattle.atomic_table.specs.Table.{Splits, Joins}
use Rattle.atomic_table.proofs.Lists.{set_here, set_else, at_longer, at_last}
use Rattle.room_object.specs.Entry.{Entry}
use Rattle.room_desk.specs.History.{of_pass, Begins}
use Rattle.room_desk.specs.Turns.{Past, View, Fits, Desked, Holder, Has, Distinct, pasts_of, tickets_of, how_many, past}
use Rattle.room_desk.specs.Plays.{left_of, right_of, other_pasts, first_past, joined, spent}
use Rattle.room_desk.proofs.Totals.{total_set, total_snoc, length_at, has_first, has_second, has_either}
use Rattle.room_desk.proofs.Seats.{elsewhere, each_set, each_snoc, kept_at, at_once, apart_set, apart_snoc, holder_set}
use Rattle.room_desk.proofs.Draw.{opened}

module _ {C : Type 0} where
  -- passes of two seats, no number of which both have
  distinct_both : (l m : List (Past C)) → Distinct l → Distinct m → ((x y : Past C) → Has l x → Has m y → x.number ≢ y.number) → Distinct (l ++ m)
  distinct_both [] m a b ne = b
  distinct_both (x ∷ xs) m a b ne =
      (λ y has. ⊎_elim (a.0 y) (λ t is. ne x y (inl refl) t (sym is)) (has_either xs m y has), distinct_both xs m a.1 b (λ y z has there. ne y z (inr has) there))

module _ {C O : Type 0} (number : O → ℕ) (stands_for : O → List (Entry C) → Type 0) where
  -- the first pass of a seat gets a seat of its own
  pub splits : (count id n p : ℕ) (before h : List (Entry C)) (more : List (Past C)) (v : View C) → v.object ≡ Some n → v.ticket ≡ None → v.turn ≡ false → v.pasts ≡ past p before h ∷ more
      → Splits (Desked number stands_for count) id v (left_of v) (right_of v)
  splits count id n p before h more v named idle still first s rule at =
      let g = opened number stands_for count s id n v rule at named in
      let fit = g.fits id v at in
      let distinct : Distinct (past p before h ∷ more) = subst (λ (l : List (Past C)). Distinct l) first fit.distinct in
      let left = left_of v in
      let right = right_of v in
      let views' = set s.views id left in
      let new = length views' in
      let size : new ≡ length s.views = length-set s.views id left in
      let known_left : left.pasts ≡ more = ap other_pasts first in
      let known_right : right.pasts ≡ past p before h ∷ [] = ap first_past first in
      let p_own = fit.own (past p before h) (subst (λ (l : List (Past C)). Has l (past p before h)) (sym first) (inl refl)) in
      let place : ℕ → ℕ = λ q. cond (q == p) new (g.seat_of q) in
      let place_p : (q : ℕ) → q ≡ p → place q ≡ new = λ q is. ap (λ b. cond b new (g.seat_of q)) (eq-eqb q p is) in
      let place_else : (q : ℕ) → q ≢ p → place q ≡ g.seat_of q = λ q not. ap (λ b. cond b new (g.seat_of q)) (ne_eqb q p not) in
      let one : length right.pasts ≡ 1 = ap length known_right in
      let two : length v.pasts ≡ length more + 1 = ap length first ∙ omega arith in
      let three : length left.pasts ≡ length more = ap length known_left in
      let no_ticket : tickets_of v ≡ 0 = ap how_many idle in
      let sums = total_set pasts_of s.views id v left at in
      let sums' = total_snoc pasts_of views' right in
      let outs = total_set tickets_of s.views id v left at in
      let outs' = total_snoc tickets_of views' right in
      let lefts : Fits g.name g.past g.log g.turns g.drawn place id left = record {
        named = λ some_past. fit.named (omega arith);
        own = λ x has. let there = subst (λ (l : List (Past C)). Has l x) known_left has in
            let f = fit.own x (subst (λ (l : List (Past C)). Has l x) (sym first) (inr there)) in
            (place_else x.number (distinct.0 x there) ∙ f.0, f.1, f.2, f.3, f.4);
        distinct = subst (λ (l : List (Past C)). Distinct l) (sym known_left) distinct.1;
        ticket = fit.ticket;
        owned = omega arith;
        turn = λ is. absurd (cc (sym is ∙ still));
      } in
      let elses : (j : ℕ) (u : View C) → j ≢ id → get_elem? s.views j ≡ some u → Fits g.name g.past g.log g.turns g.drawn place j u =
      λ j u ne e. let f = g.fits j u e in record {
        named = f.named;
        own = λ x has. let f' = f.own x has in (place_else x.number (λ is. ne (sym f'.0 ∙ (ap g.seat_of is ∙ p_own.0))) ∙ f'.0, f'.1, f'.2, f'.3, f'.4);
        distinct = f.distinct;
        ticket = f.ticket;
        owned = f.owned;
        turn = f.turn;
      } in
      let rights : Fits g.name g.past g.log g.turns g.drawn place new right = record {
        named = λ some_past. fit.named (omega arith);
        own = λ x has. ⊎_elim (λ is. subst (λ (y : Past C). (place y.number ≡ new) × Begins g.log y.seen × (of_pass y.number g.log ≡ of_pass y.number y.seen) × Begins y.seen g.past × (y.before ≡ g.past)) is
            (place_p p refl, p_own.1, p_own.2, p_own.3, p_own.4)) (λ f. absurd f)
            (subst (λ (l : List (Past C)). Has l x) known_right has);
        distinct = subst (λ (l : List (Past C)). Distinct l) (sym known_right) (λ y has. absurd has, tt);
        ticket = λ t is. absurd (cc (is));
        owned = omega arith;
        turn = λ is. absurd (cc (is));
      } in
      let known : (q : ℕ) → (of_pass q g.later ≡ []) ⊎ Holder (views' ++ right ∷ []) (place q) q =
      λ q. dite (ℕ_discrete q p)
      (λ is. inr (right, subst (λ k. get_elem? (views' ++ right ∷ []) k ≡ some right) (sym (place_p q is)) (at_last views' right new refl), (past p before h, subst (λ (l : List (Past C)). Has l (past p before h)) (sym known_right) (inl refl), sym is)))
      (λ not. ⊎_elim inl (λ k.
      let moved = holder_set s.views id (g.seat_of q) v left q at
      (λ x. (x.0, subst (λ (l : List (Past C)). Has l x.0) (sym known_left) (⊎_elim (λ e. absurd (not (sym x.2 ∙ sym (ap (λ (y : Past C). y.number) e)))) (λ e. e) (subst (λ (l : List (Past C)). Has l x.0) first x.1)), x.2)) k in
      inr (moved.0, subst (λ k. get_elem? (views' ++ right ∷ []) k ≡ some moved.0) (sym (place_else q not)) (at_longer views' (right ∷ []) (g.seat_of q) moved.0 moved.1), moved.2)) (g.known q)) in
      inr (record {
        name = g.name;
        past = g.past;
        later = g.later;
        log = g.log;
        split = g.split;
        turns = g.turns;
        drawn = g.drawn;
        seat_of = place;
        words = g.words;
        pasts = let sum = g.pasts in omega arith;
        small = g.small;
        tickets = let sum = g.tickets in omega arith;
        fits = each_snoc (Fits g.name g.past g.log g.turns g.drawn place) views' right rights (each_set (Fits g.name g.past g.log g.turns g.drawn place) s.views id left lefts elses);
        apart = apart_snoc views' right (apart_set s.views id left g.apart (λ j u t ne e a b. cc (b, idle))) refl;
        known = known;
        slot = ⊎_elim
            (λ k. inl (k.0, k.1, k.2, k.3, each_snoc (λ j (u : View C). u.turn ≡ false) views' right refl (each_set (λ j (u : View C). u.turn ≡ false) s.views id left still (λ j u ne e. k.4 j u e))))
            (λ k. let ne = elsewhere s.views k.1.0 id k.1.1 v k.1.2 at k.1.3 still in
            inr (k.0, (k.1.0, k.1.1, at_longer views' (right ∷ []) k.1.0 k.1.1 (kept_at s.views id k.1.0 left k.1.1 ne k.1.2), k.1.3)))
            g.slot;
      })

  -- one seat takes in the passes of another
  pub joins : (count id n other : ℕ) (v w : View C) → v.object ≡ Some n → 0 < length v.pasts → v.ticket ≡ None → v.turn ≡ false → w.ticket ≡ None → w.turn ≡ false
      → Joins (Desked number stands_for count) id v other w (joined v w) spent
  joins count id n other v w named some_past idle still idle_w still_w s rule at ne at_w =
      let g = opened number stands_for count s id n v rule at named in
      let both = joined v w in
      let views' = set s.views id both in
      let at_other : get_elem? s.views other ≡ some w = sym (set_else s.views id other both ne) ∙ at_w in
      let fit = g.fits id v at in
      let fit_w = g.fits other w at_other in
      let place : ℕ → ℕ = λ q. cond (g.seat_of q == other) id (g.seat_of q) in
      let place_moved : (q : ℕ) → g.seat_of q ≡ other → place q ≡ id = λ q is. ap (λ b. cond b id (g.seat_of q)) (eq-eqb (g.seat_of q) other is) in
      let place_kept : (q : ℕ) → g.seat_of q ≢ other → place q ≡ g.seat_of q = λ q not. ap (λ b. cond b id (g.seat_of q)) (ne_eqb (g.seat_of q) other not) in
      let zero_v : tickets_of v ≡ 0 = ap how_many idle in
      let zero_w : tickets_of w ≡ 0 = ap how_many idle_w in
      let long : length (w.pasts ++ v.pasts) ≡ length w.pasts + length v.pasts = length-append w.pasts v.pasts in
      let sums = total_set pasts_of s.views id v both at in
      let sums' = total_set pasts_of views' other w spent at_w in
      let outs = total_set tickets_of s.views id v both at in
      let outs' = total_set tickets_of views' other w spent at_w in
      let boths : Fits g.name g.past g.log g.turns g.drawn place id both = record {
        named = λ _. fit.named some_past;
        own = λ x has. ⊎_elim
            (λ t. let f = fit_w.own x t in (place_moved x.number f.0, f.1, f.2, f.3, f.4))
            (λ t. let f = fit.own x t in (place_kept x.number (λ is. ne (sym is ∙ f.0)) ∙ f.0, f.1, f.2, f.3, f.4))
            (has_either w.pasts v.pasts x has);
        distinct = distinct_both w.pasts v.pasts fit_w.distinct fit.distinct (λ x y has there is. ne (sym (fit_w.own x has).0 ∙ (ap g.seat_of is ∙ (fit.own y there).0)));
        ticket = fit.ticket;
        owned = omega arith;
        turn = λ is. absurd (cc (sym is ∙ still));
      } in
      let elses : (j : ℕ) (u : View C) → j ≢ other → get_elem? views' j ≡ some u → Fits g.name g.past g.log g.turns g.drawn place j u =
      λ j u not e. each_set (λ i (x : View C). i ≢ other → Fits g.name g.past g.log g.turns g.drawn place i x) s.views id both (λ _. boths)
      (λ i x _ d not_other. let f = g.fits i x d in record {
        named = f.named;
        own = λ y has. let f' = f.own y has in (place_kept y.number (λ is. not_other (sym f'.0 ∙ is)) ∙ f'.0, f'.1, f'.2, f'.3, f'.4);
        distinct = f.distinct;
        ticket = f.ticket;
        owned = f.owned;
        turn = f.turn;
      }) j u e not in
      let spents : Fits g.name g.past g.log g.turns g.drawn place other spent = record {
        named = λ has. absurd (omega arith);
        own = λ x has. absurd has;
        distinct = tt;
        ticket = λ t is. absurd (cc (is));
        owned = omega arith;
        turn = λ is. absurd (cc (is));
      } in
      let id_not : id ≢ other = λ is. ne (sym is) in
      let both_at : get_elem? (set views' other spent) id ≡ some both = kept_at views' other id spent both id_not (set_here s.views id both (length_at s.views id v at)) in
      let known : (q : ℕ) → (of_pass q g.later ≡ []) ⊎ Holder (set views' other spent) (place q) q =
      λ q. ⊎_elim inl (λ h. dite (ℕ_discrete (g.seat_of q) other)
      (λ is.
      let same : h.0 ≡ w = at_once s.views other h.0 w (subst (λ i. get_elem? s.views i ≡ some h.0) is h.1) at_other in
      let x = h.2.0 in
      let has : Has w.pasts x = subst (λ (u : View C). Has u.pasts x) same h.2.1 in
      inr (both, subst (λ k. get_elem? (set views' other spent) k ≡ some both) (sym (place_moved q is)) both_at, (x, has_first w.pasts v.pasts x has, h.2.2)))
      (λ not.
      let moved = holder_set s.views id (g.seat_of q) v both q at (λ x. (x.0, has_second w.pasts v.pasts x.0 x.1, x.2)) h in
      inr (moved.0, subst (λ k. get_elem? (set views' other spent) k ≡ some moved.0) (sym (place_kept q not)) (kept_at views' other (g.seat_of q) spent moved.0 not moved.1), moved.2))) (g.known q) in
      inr (record {
        name = g.name;
        past = g.past;
        later = g.later;
        log = g.log;
        split = g.split;
        turns = g.turns;
        drawn = g.drawn;
        seat_of = place;
        words = g.words;
        pasts = let sum = g.pasts in omega arith;
        small = g.small;
        tickets = let sum = g.tickets in omega arith;
        fits = each_set (Fits g.name g.past g.log g.turns g.drawn place) views' other spent spents elses;
        apart = apart_set views' other spent (apart_set s.views id both g.apart (λ j u t n e a b. cc (b, idle))) (λ j u t n e a b. cc (b));
        known = known;
        slot = ⊎_elim
            (λ k. inl (k.0, k.1, k.2, k.3, each_set (λ j (u : View C). u.turn ≡ false) views' other spent refl (λ j u n e. each_set (λ j (u : View C). u.turn ≡ false) s.views id both still (λ j u n e. k.4 j u e) j u e)))
            (λ k.
            let not_id = elsewhere s.views k.1.0 id k.1.1 v k.1.2 at k.1.3 still in
            let not_other = elsewhere s.views k.1.0 other k.1.1 w k.1.2 at_other k.1.3 still_w in
            inr (k.0, (k.1.0, k.1.1, kept_at views' other k.1.0 spent k.1.1 not_other (kept_at s.views id k.1.0 both k.1.1 not_id k.1.2), k.1.3)))
            g.slot;
      })
