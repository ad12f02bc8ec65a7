-- Trying for the turn keeps the rule.
use Rattle.std.proofs.Common.{◌≡◌, ℕ, ◌+◌, ◌%◌, ◌^◌, ◌≤◌, Bool, true, false, eqb, List, [], ◌∷◌, ◌++◌, length, set, get_or, Option, Some, MatchBool, refl, ap, sym, ◌∙◌, subst, inl, inr, ⊎_elim, arith, eq-eqb, ne_eqb}
use mathlib.Core.Logic.{dite}
use mathlib.Core.Option.{some, none, some-injective}
use mathlib.Core.Option as maybe
use native.Mathlib.Decide.{ℕ_discrete}
use lib.ListN.{get_elem?}
use prog.Atomic.{either}
use Rattle.atomic_table.specs.Table.{State, Me, Act, Allows, Valid, step, stepped, keeps, takes, carried_after}
use Rattle.atomic_table.proofs.Lists.{set_here, set_again, one_turn}
use Rattle.room_object.specs.Entry.{Entry}
use Rattle.room_desk.specs.History.{of_pass, Begins}
use Rattle.room_desk.specs.Turns.{Past, View, Fits, Turns, Desked, Has, AtHome, pasts_of, tickets_of, past, view, number_in, before_in, seen_in}
use Rattle.room_desk.specs.declared.desk.TheConstants.{MOST_PASSES}
use Rattle.room_desk.specs.Plays.{Tries, Takes}
use Rattle.room_desk.proofs.Totals.{total_set, total_less, length_at}
use Rattle.room_desk.proofs.Seats.{each_set, at_once, apart_set, holder_set}
use Rattle.room_desk.proofs.Histories.{none_own}
use Rattle.room_desk.proofs.Draw.{opened}

module _ {C O : Type 0} (number : O → ℕ) (stands_for : O → List (Entry C) → Type 0) where
  -- no more tickets are out than there are passes
  pub few_out : (count : ℕ) (s : State (Option O) (View C)) (g : Turns number stands_for count s) → g.drawn ≤ MOST_PASSES + g.turns
  few_out count s g =
      let less = total_less tickets_of pasts_of s.views (λ j u e. (g.fits j u e).owned) in
      let sum = g.pasts in let out = g.tickets in let small = g.small in omega arith

  -- who has the ticket that is next finds the object at home
  pub mine_at_home : (count : ℕ) (s : State (Option O) (View C)) (g : Turns number stands_for count s) (id : ℕ) (v : View C) → get_elem? s.views id ≡ some v → v.ticket ≡ Some g.turns → v.turn ≡ false
      → AtHome number stands_for g.name g.log s.homes s.views
  mine_at_home count s g id v at ticket still = ⊎_elim (λ h. h) (λ h.
      let f = g.fits h.1.0 h.1.1 h.1.2 in
      let is : h.1.0 ≡ id = g.apart h.1.0 id h.1.1 v g.turns h.1.2 at (f.turn h.1.3).0 ticket in
      let eq = at_once s.views id h.1.1 v (subst (λ i. get_elem? s.views i ≡ some h.1.1) is h.1.2) at in
      absurd (cc (ap (λ (u : View C). u.turn) eq, h.1.3, still))) g.slot

  Tried : ℕ → State (Option O) (View C) → ℕ → Me (Option O) (View C) → ℕ → ℕ → Bool → Type 0
  Tried count s id m n k b = (w : View C) × (a : Act (Option O)) × Valid s.homes m.1 a × Desked number stands_for count (stepped s 1 (either b k n) id m.1 w a)
      × MatchBool b (Takes number stands_for m (w, carried_after m.1 a)) ((w, carried_after m.1 a) ≡ m)

  missed : (count : ℕ) (s : State (Option O) (View C)) (id : ℕ) (m : Me (Option O) (View C)) (k : ℕ) → Turns number stands_for count s → get_elem? s.views id ≡ some m.0 → Tried count s id m (get_or s.words 1 0) k false
  unfolding Tried
  missed count s id m k g at =
      let n = get_or s.words 1 0 in
      let words : set s.words 1 n ≡ s.words = ap (λ (ws : List ℕ). set ws 1 (get_or ws 1 0)) g.words ∙ sym g.words in
      let views : set s.views id m.0 ≡ s.views = set_again s.views id m.0 at in
      let same : Desked number stands_for count (stepped s 1 n id m.1 m.0 keeps) =
      subst (Desked number stands_for count) (λ i. record { words = sym words i; homes = s.homes; views = sym views i }) (inr g) in
      (m.0, keeps, tt, same, refl)

  taken : (count : ℕ) (s : State (Option O) (View C)) (id n : ℕ) (m : Me (Option O) (View C)) (g : Turns number stands_for count s) → get_elem? s.views id ≡ some m.0 → m.0.object ≡ Some n
      → m.0.pasts ≡ past (number_in m.0.pasts) (before_in m.0.pasts) (seen_in m.0.pasts) ∷ [] → m.0.ticket ≡ Some g.turns → m.0.turn ≡ false → m.1 ≡ []
      → (k : ℕ) → k ≡ get_or s.words 1 0 → Tried count s id m (get_or s.words 1 0) k true
  unfolding Tried
  taken count s id n m g at named alone ticket still none_out k is =
      let v : View C = m.0 in
      let p = number_in v.pasts in
      let before = before_in v.pasts in
      let seen = seen_in v.pasts in
      let home = mine_at_home count s g id v at ticket still in
      let o = home.0 in
      let has : Has v.pasts (past p before seen) = subst (λ (l : List (Past C)). Has l (past p before seen)) (sym alone) (inl refl) in
      let fit = g.fits id v at in
      let mine_own = fit.own (past p before seen) has in
      let newer = mine_own.1.0 in
      let all : g.log ≡ newer ++ seen = mine_own.1.1 in
      let w : View C = view v.object (past p before g.log ∷ []) v.ticket true in
      let one : length v.pasts ≡ 1 = ap length alone in
      let sums = total_set pasts_of s.views id v w at in
      let outs = total_set tickets_of s.views id v w at in
      let here : get_elem? (set s.views id w) id ≡ some w = set_here s.views id w (length_at s.views id v at) in
      let mine : Fits g.name g.past g.log g.turns g.drawn g.seat_of id w = record {
        named = λ some_past. fit.named (omega arith);
        own = λ x h. ⊎_elim (λ e. subst (λ (y : Past C). (g.seat_of y.number ≡ id) × Begins g.log y.seen × (of_pass y.number g.log ≡ of_pass y.number y.seen) × Begins y.seen g.past × (y.before ≡ g.past)) e
            (mine_own.0, ([], refl), refl, (g.later, g.split), mine_own.4)) (λ f. absurd f) h;
        distinct = (λ y has. absurd has, tt);
        ticket = fit.ticket;
        owned = let owned = fit.owned in omega arith;
        turn = λ e. (ticket, refl);
      } in
      let home_name = home.2 in
      let number_is : Some g.name ≡ Some (number o) = ap (λ (i : ℕ). Some i) (sym home.2) in
      let object_is : v.object ≡ Some (number o) = fit.named (omega arith) ∙ number_is in
      let after : Turns number stands_for count (stepped s 1 (either true k (get_or s.words 1 0)) id m.1 w (takes 0 (Some o))) = record {
        name = g.name;
        past = g.past;
        later = g.later;
        log = g.log;
        split = g.split;
        turns = g.turns;
        drawn = g.drawn;
        seat_of = g.seat_of;
        words = ap (λ (i : ℕ). set s.words 1 i) is ∙ (ap (λ (ws : List ℕ). set ws 1 (get_or ws 1 0)) g.words);
        pasts = let sum = g.pasts in omega arith;
        small = g.small;
        tickets = let sum = g.tickets in omega arith;
        fits = each_set (Fits g.name g.past g.log g.turns g.drawn g.seat_of) s.views id w mine (λ j u ne e. g.fits j u e);
        apart = apart_set s.views id w g.apart (λ j u t ne e a b. ne (g.apart j id u v t e at a b));
        known = λ q. ⊎_elim inl (λ h. inr (holder_set s.views id (g.seat_of q) v w q at
            (λ x. (past p before g.log, inl refl, ⊎_elim (λ e. ap (λ (y : Past C). y.number) e ∙ x.2) (λ f. absurd f) (subst (λ (l : List (Past C)). Has l x.0) alone x.1))) h)) (g.known q);
        slot = inr (ap (λ (hs : List (maybe.Option (Option O))). set hs 0 none) home.1, (id, w, here, refl));
      } in
      let valid : get_elem? s.homes 0 ≡ some (some (Some o)) = ap (λ (hs : List (maybe.Option (Option O))). get_elem? hs 0) home.1 in
      let stands : stands_for o (newer ++ seen) = subst (stands_for o) all home.3 in
      let seen_is : (w, (0, Some o) ∷ m.1) ≡ (view v.object (past p before (newer ++ seen) ∷ []) v.ticket true, (0, Some o) ∷ []) =
      λ i. (view v.object (past p before (all i) ∷ []) v.ticket true, (0, Some o) ∷ none_out i) in
      (w, takes 0 (Some o), valid, inr after, (o, newer, object_is, none_own p g.log newer seen all mine_own.2, stands, seen_is))

  -- a seat with one pass and a ticket tries for the turn
  pub tries : (count slots id k t n : ℕ) (m : Me (Option O) (View C)) → m.0.object ≡ Some n → m.0.pasts ≡ past (number_in m.0.pasts) (before_in m.0.pasts) (seen_in m.0.pasts) ∷ [] → m.0.ticket ≡ Some t → m.0.turn ≡ false → m.1 ≡ []
      → k ≡ t % 2 ^ 64 → Allows (Desked number stands_for count) slots id m 1 (λ n. either (eqb n k) k n) (Tries number stands_for (step slots 1 k k none) m)
  unfolding Tried
  tries count slots id k t n m named alone ticket still none_out low s rule long at wide =
      let g = opened number stands_for count s id n m.0 rule at named in
      let found = get_or s.words 1 0 in
      let next : found ≡ g.turns % 2 ^ 64 = ap (λ (ws : List ℕ). get_or ws 1 0) g.words in
      dite (ℕ_discrete found k)
      (λ hit.
      let range = (g.fits id m.0 at).ticket t ticket in
      let few = few_out count s g in
      let same : g.turns ≡ t = one_turn g.turns t (2 ^ 64) range.0 (omega arith) (sym next ∙ (hit ∙ low)) in
      let mine : m.0.ticket ≡ Some g.turns = ticket ∙ ap (λ (i : ℕ). Some i) (sym same) in
      subst (Tried count s id m found k) (sym (eq-eqb found k hit)) (taken count s id n m g at named alone mine still none_out k (sym hit)))
      (λ miss. subst (Tried count s id m found k) (sym (ne_eqb found k miss)) (missed count s id m k g at))
