-- Opening a desk keeps the rule; and what the rule gives where a desk is closed with all its passes.
use Rattle.std.proofs.Common.{◌≡◌, ◌≢◌, ℕ, zero, suc, ◌+◌, ◌-◌, ◌%◌, ◌^◌, ◌<◌, ◌≤◌, true, false, List, [], ◌∷◌, ◌++◌, length, set, get_or, Option, Some, None, refl, ap, sym, ◌∙◌, subst, inl, inr, ⊎_elim, arith}
use mathlib.Core.Option.{some, none, some-injective}
use mathlib.Core.Option as maybe
use lib.ListN.{get_elem?}
use Rattle.atomic_table.specs.Table.{State, Me, Allows, step, stepped, takes, gives, rest}
use Rattle.room_object.specs.Entry.{Entry}
use Rattle.room_desk.specs.History.{DeskId, held, dealt, of_pass}
use Rattle.room_desk.specs.Turns.{Past, View, Fits, Turns, Desked, Has, Distinct, total, pasts_of, tickets_of, past, view, fresh, told, untold, seen_in}
use Rattle.room_desk.specs.Plays.{Reaches, Opens}
use Rattle.room_desk.proofs.Totals.{only_one, only_place}

module _ {C : Type 0} (seen : List (Entry C)) where
  pub length_fresh : (k n : ℕ) → length (fresh seen k n) ≡ n
  length_fresh k zero = refl
  length_fresh k (suc n) = ap suc (length_fresh (k + 1) n)

  fresh_seen : (k n : ℕ) (x : Past C) → Has (fresh seen k n) x → x.seen ≡ seen
  fresh_seen k zero x has = absurd has
  fresh_seen k (suc n) x has = ⊎_elim (λ is. sym (ap (λ (y : Past C). y.seen) is)) (fresh_seen (k + 1) n x) has

  fresh_before : (k n : ℕ) (x : Past C) → Has (fresh seen k n) x → x.before ≡ seen
  fresh_before k zero x has = absurd has
  fresh_before k (suc n) x has = ⊎_elim (λ is. sym (ap (λ (y : Past C). y.before) is)) (fresh_before (k + 1) n x) has

  -- numbers are given once
  pub fresh_above : (k n : ℕ) (x : Past C) → Has (fresh seen k n) x → k ≤ x.number
  fresh_above k zero x has = absurd has
  fresh_above k (suc n) x has = ⊎_elim (λ is. let same = ap (λ (y : Past C). y.number) is in omega arith) (λ t. let more = fresh_above (k + 1) n x t in omega arith) has

  pub fresh_next : (k n : ℕ) → k < n → fresh seen k (n - k) ≡ past k seen seen ∷ fresh seen (k + 1) (n - (k + 1))
  fresh_next k n lt = let next : n - k ≡ suc (n - (k + 1)) = omega arith in ap (λ m. fresh seen k m) next

  fresh_apart : (k n : ℕ) (x : Past C) → Has (fresh seen (k + 1) n) x → x.number ≢ k
  fresh_apart k n x has is = let above = fresh_above (k + 1) n x has in omega arith

  fresh_each : (k n : ℕ) → Distinct (fresh seen k n)
  fresh_each k zero = tt
  fresh_each k (suc n) = (fresh_apart k n, fresh_each (k + 1) n)

  pub dealt_next : (d : DeskId) (k : ℕ) → dealt seen d (k + 1) ≡ dealt seen d k ++ held d k seen seen ∷ []
  dealt_next d k = let next : k + 1 ≡ suc k = omega arith in ap (λ m. dealt seen d m) next

  -- passes that had seen another history are told of this one
  pub told_fresh : (other : List (Entry C)) (k n : ℕ) → told seen (fresh other k n) ≡ fresh seen k n
  told_fresh other k zero = refl
  told_fresh other k (suc n) = ap (λ (l : List (Past C)). past k seen seen ∷ l) (told_fresh other (k + 1) n)

  -- what the first of some passes has seen
  pub seen_fresh : (k n : ℕ) → 0 < n → seen_in (fresh seen k n) ≡ seen
  seen_fresh k zero lt = absurd (omega arith)
  seen_fresh k (suc n) lt = refl

module _ {C O : Type 0} (number : O → ℕ) (stands_for : O → List (Entry C) → Type 0) where
  -- no seat of an open desk has passes and no number of the object
  unnamed : (count : ℕ) (s : State (Option O) (View C)) (id : ℕ) (v : View C) → Turns number stands_for count s → get_elem? s.views id ≡ some v → v.object ≡ None → 0 < length v.pasts → ⊥
  unnamed count s id v g at nameless some_past = let is = (g.fits id v at).named some_past in absurd (cc (is, nameless))

  -- the only seat of a desk that isn't open takes the empty slot
  pub reaches : (count slots id : ℕ) → 0 < count → Allows (Desked number stands_for count) slots id (untold count, []) 1 (λ n. n) (Reaches (step slots 1 0 0 none) (untold count, []))
  reaches count slots id some_pass s rule long at wide =
      let w : View C = view None (fresh [] 0 count) None true in
      let size : length (fresh {C = C} [] 0 count) ≡ count = length_fresh [] 0 count in
      ⊎_elim
      (⊎_elim
      (λ u.
      let zero_is = only_place s.views (untold count) (untold count) id u.1 at in
      let views : set s.views id w ≡ w ∷ [] = ap (λ i. set s.views i w) zero_is ∙ ap (λ (l : List (View C)). set l 0 w) u.1 in
      let words : set s.words 1 (get_or s.words 1 0) ≡ 0 ∷ 0 ∷ [] = ap (λ (ws : List ℕ). set ws 1 (get_or ws 1 0)) u.0 in
      let homes : set s.homes 0 none ≡ none ∷ [] = ap (λ (hs : List (maybe.Option (Option O))). set hs 0 none) u.2 in
      (w, takes 0 None, ap (λ (hs : List (maybe.Option (Option O))). get_elem? hs 0) u.2, inl (inr (words, views, homes, u.3, u.4)), refl))
      (λ u. absurd (cc (ap (λ (v : View C). v.turn) (only_one s.views w (untold count) id u.1 at)))))
      (λ g. absurd (unnamed count s id (untold count) g at refl (omega arith)))
      rule

  -- it gives the slot back with the object in it
  pub opens : (count slots id : ℕ) (o : O) (before : List (Entry C)) → 0 < count → stands_for o before → Allows (Desked number stands_for count) slots id (view None (fresh [] 0 count) None true, (0, Some o) ∷ []) 1 (λ n. (n + 0) % 2 ^ 64)
      (Opens number stands_for (step slots 1 0 0 none) (view None (fresh [] 0 count) None true, (0, Some o) ∷ []))
  opens count slots id o before some_pass stands s rule long at wide =
      let v : View C = view None (fresh [] 0 count) None true in
      let w : View C = view (Some (number o)) (fresh before 0 count) None false in
      let size : length (fresh {C = C} [] 0 count) ≡ count = length_fresh [] 0 count in
      let size' : length (fresh before 0 count) ≡ count = length_fresh before 0 count in
      ⊎_elim
      (⊎_elim
      (λ u. absurd (cc (ap (λ (v : View C). v.turn) (only_one s.views (untold count) v id u.1 at))))
      (λ u.
      let zero_is = only_place s.views v v id u.1 at in
      let views : set s.views id w ≡ w ∷ [] = ap (λ i. set s.views i w) zero_is ∙ ap (λ (l : List (View C)). set l 0 w) u.1 in
      let homes : set s.homes 0 (some (Some o)) ≡ some (Some o) ∷ [] = ap (λ (hs : List (maybe.Option (Option O))). set hs 0 (some (Some o))) u.2 in
      let fit : Fits (number o) before before 0 0 (λ _. 0) 0 w = record {
        named = λ _. refl;
        own = λ x has. let seen = fresh_seen before 0 count x has in
            (refl, ([], sym seen), ap (λ (l : List (Entry C)). of_pass x.number l) (sym seen), ([], seen), fresh_before before 0 count x has);
        distinct = fresh_each before 0 count;
        ticket = λ t is. absurd (cc (is));
        owned = omega arith;
        turn = λ is. absurd (cc (is));
      } in
      let only : (j : ℕ) (x : View C) → get_elem? (set s.views id w) j ≡ some x → (j ≡ 0) × (w ≡ x) =
      λ j x e. (only_place (set s.views id w) w x j views e, only_one (set s.views id w) w x j views e) in
      let after : Turns number stands_for count (stepped s 1 ((get_or s.words 1 0 + 0) % 2 ^ 64) id ((0, Some o) ∷ []) w gives) = record {
        name = number o;
        past = before;
        later = [];
        log = before;
        split = refl;
        turns = 0;
        drawn = 0;
        seat_of = λ _. 0;
        words = ap (λ (ws : List ℕ). set ws 1 ((get_or ws 1 0 + 0) % 2 ^ 64)) u.0;
        pasts = ap (λ (l : List (View C)). total pasts_of l) views ∙ omega arith;
        small = u.4;
        tickets = ap (λ (l : List (View C)). total tickets_of l + 0) views;
        fits = λ j x e. let is = only j x e in subst (λ i. Fits (number o) before before 0 0 (λ _. 0) i x) (sym is.0) (subst (λ y. Fits (number o) before before 0 0 (λ _. 0) 0 y) is.1 fit);
        apart = λ i j x y t e d a b. (only i x e).0 ∙ sym (only j y d).0;
        known = λ p. inl refl;
        slot = inl (o, homes, refl, stands, λ j x e. sym (ap (λ (y : View C). y.turn) (only j x e).1));
      } in
      let told_all = ap (λ (l : List (Past C)). (view (Some (number o)) l None false, [])) (sym (told_fresh before [] 0 count)) in
      (w, gives, tt, inr after, (o, before, refl, stands, told_all))))
      (λ g. absurd (unnamed count s id v g at refl (omega arith)))
      rule

  -- the first seat took the empty slot, and put the object in
  pub filled : (count : ℕ) (m w x : Me (Option O) (View C)) (o : O) → m ≡ (untold count, [])
      → w ≡ (view m.0.object m.0.pasts m.0.ticket true, (0, None) ∷ []) → x ≡ (w.0, (0, Some o) ∷ rest w.1) → x ≡ (view None (fresh [] 0 count) None true, (0, Some o) ∷ [])
  filled count m w x o first taken put =
      put
      ∙ (ap (λ (y : Me (Option O) (View C)). (y.0, (0, Some o) ∷ rest y.1)) taken
      ∙ ap (λ (y : Me (Option O) (View C)). (view y.0.object y.0.pasts y.0.ticket true, (0, Some o) ∷ [])) first)

  -- what the opening told the seat
  pub opened_as : (count : ℕ) (m n : Me (Option O) (View C)) (o : O) → 0 < count → m ≡ (view None (fresh [] 0 count) None true, (0, Some o) ∷ [])
      → Opens number stands_for (step 0 0 0 0 none) m 0 n → stands_for o (seen_in n.0.pasts) × (n ≡ (view (Some (number o)) (fresh (seen_in n.0.pasts) 0 count) None false, []))
  opened_as count m n o some_pass is opens =
      let own : ℕ × Option O = (0, Some opens.0) in
      let other : ℕ × Option O = (0, Some o) in
      let slot : m.1 ≡ other ∷ [] = ap (λ (x : Me (Option O) (View C)). x.1) is in
      let both : own ≡ other = cc (opens.2, slot) in
      let values : Some opens.0 ≡ Some o = ap (λ (x : ℕ × Option O). x.1) both in
      let object : opens.0 ≡ o = cc (values) in
      let all : n ≡ (view (Some (number o)) (fresh opens.1 0 count) None false, []) =
      opens.4 ∙ ((λ i. (view (Some (number (object i))) (told opens.1 (is i).0.pasts) None false, []))
      ∙ ap (λ (l : List (Past C)). (view (Some (number o)) l None false, [])) (told_fresh opens.1 [] 0 count)) in
      let seen : seen_in n.0.pasts ≡ opens.1 = ap (λ (x : Me (Option O) (View C)). seen_in x.0.pasts) all ∙ seen_fresh opens.1 0 count some_pass in (
        subst (λ (l : List (Entry C)). stands_for o l) (sym seen) (subst (λ (x : O). stands_for x opens.1) object opens.3),
        all ∙ ap (λ (l : List (Entry C)). (view (Some (number o)) (fresh l 0 count) None false, [])) (sym seen),
      )

  -- the same, where the key and the seat are known to be these
  pub reaches_at : (key count slots id : ℕ) (m : Me (Option O) (View C)) → key ≡ count → m ≡ (untold count, []) → 0 < count → Allows (Desked number stands_for key) slots id m 1 (λ n. n) (Reaches (step slots 1 0 0 none) m)
  reaches_at key count slots id m key_is is some_pass =
      subst (λ k. Allows (Desked number stands_for k) slots id m 1 (λ n. n) (Reaches (step slots 1 0 0 none) m)) (sym key_is)
      (subst (λ (x : Me (Option O) (View C)). Allows (Desked number stands_for count) slots id x 1 (λ n. n) (Reaches (step slots 1 0 0 none) x)) (sym is) (reaches count slots id some_pass))

  pub opens_at : (key count slots id : ℕ) (m : Me (Option O) (View C)) (o : O) (before : List (Entry C)) → key ≡ count → m ≡ (view None (fresh [] 0 count) None true, (0, Some o) ∷ []) → 0 < count → stands_for o before
      → Allows (Desked number stands_for key) slots id m 1 (λ n. (n + 0) % 2 ^ 64) (Opens number stands_for (step slots 1 0 0 none) m)
  opens_at key count slots id m o before key_is is some_pass stands =
      subst (λ k. Allows (Desked number stands_for k) slots id m 1 (λ n. (n + 0) % 2 ^ 64) (Opens number stands_for (step slots 1 0 0 none) m)) (sym key_is)
      (subst (λ (x : Me (Option O) (View C)). Allows (Desked number stands_for count) slots id x 1 (λ n. (n + 0) % 2 ^ 64) (Opens number stands_for (step slots 1 0 0 none) x)) (sym is) (opens count slots id o before some_pass stands))
