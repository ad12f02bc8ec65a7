-- What the rule gives where a desk is closed with all its passes.
use Rattle.std.proofs.Common.{◌≡◌, ℕ, zero, suc, ◌-◌, ◌<◌, ◌≤◌, Bool, true, false, cond, List, [], ◌∷◌, ◌++◌, map, take, length, get_or, All, Any, Option, Some, None, refl, ap, sym, ◌∙◌, subst, inl, inr, ⊎_elim, arith, eqb, eq-eqb}
use mathlib.Core.Logic.{dite}
use mathlib.Core.Option.{some, none, some-injective}
use mathlib.Core.Option as maybe
use native.Mathlib.Decide.{ℕ_discrete}
use lib.ListN.{get_elem?}
use Rattle.atomic_table.specs.Table.{State, Me, Final, Seen}
use Rattle.room_object.specs.Entry.{Entry}
use Rattle.room_desk.specs.History.{DeskId, Held, held, dealt, Unites, of_pass, Begins}
use Rattle.room_desk.specs.Turns.{Past, View, Turns, Desked, Has, pasts_of, tickets_of, how_many, view}
use Rattle.room_desk.specs.Plays.{United, past_of}
use Rattle.room_desk.proofs.Totals.{total_two, has_some, has_first, has_second, has_either}
use Rattle.room_desk.proofs.Seats.{at_once}
use Rattle.room_desk.proofs.Draw.{opened}

module _ {A : Type 0} where
  get_has : (l : List A) (k : ℕ) (d : A) → k < length l → Has l (get_or l k d)
  get_has [] k d lt = absurd (omega arith)
  get_has (x ∷ xs) zero d lt = inl refl
  get_has (x ∷ xs) (suc k) d lt = inr (get_has xs k d (omega arith))

  has_place : (l : List A) (x : A) → Has l x → (k : ℕ) × (k < length l) × (get_or l k x ≡ x)
  has_place [] x has = absurd has
  has_place (y ∷ ys) x has = ⊎_elim (λ is. (0, omega arith, is)) (λ t. let h = has_place ys x t in (suc h.0, let lt = h.1 in omega arith, h.2)) has

  pub all_has : (P : A → Type 0) (l : List A) → ((x : A) → Has l x → P x) → All P l
  all_has P l each k d lt = each (get_or l k d) (get_has l k d lt)

  pub has_all : (P : A → Type 0) (l : List A) (x : A) → All P l → Has l x → P x
  has_all P l x all has = let h = has_place l x has in subst P h.2 (all h.0 x h.1)

  pub any_has : (P : A → Type 0) (l : List A) (x : A) → Has l x → P x → Any P l
  any_has P l x has p = let h = has_place l x has in (h.0, x, h.1, h.2, p)

  pub map_has : {B : Type 0} (f : A → B) (l : List A) (x : A) → Has l x → Has (map f l) (f x)
  map_has f [] x has = absurd has
  map_has f (y ∷ ys) x has = ⊎_elim (λ is. inl (ap f is)) (λ t. inr (map_has f ys x t)) has

  pub has_map : {B : Type 0} (f : A → B) (l : List A) (y : B) → Has (map f l) y → (x : A) × Has l x × (f x ≡ y)
  has_map f [] y has = absurd has
  has_map f (x ∷ xs) y has = ⊎_elim (λ is. (x, inl refl, is)) (λ t. let h = has_map f xs y t in (h.0, inr h.1, h.2)) has

  pub all_first : (P : A → Type 0) (l : List A) (x : A) → All P (l ++ x ∷ []) → All P l
  all_first P l x all = all_has P l (λ y has. has_all P (l ++ x ∷ []) y all (has_first l (x ∷ []) y has))

  pub all_last : (P : A → Type 0) (l : List A) (x : A) → All P (l ++ x ∷ []) → P x
  all_last P l x all = has_all P (l ++ x ∷ []) x all (has_second l (x ∷ []) x (inl refl))

  pub emptied : (l m : List A) (n : ℕ) → l ≡ m ++ [] → m ≡ take (n - 1) l → n ≡ 0 → l ≡ []
  emptied l m n all rest_ none_ = let zero_is : n - 1 ≡ 0 = omega arith in all ∙ ap (λ k. k ++ []) (rest_ ∙ ap (λ k. take k l) zero_is)

  -- the last of one list goes to the front of the next
  pub moved_over : {B : Type 0} (f : A → B) (l : List A) (x : A) (ys : List B) → map f (l ++ x ∷ []) ++ ys ≡ map f l ++ (f x ∷ ys)
  moved_over f [] x ys = refl
  moved_over f (y ∷ l) x ys = ap (λ zs. f y ∷ zs) (moved_over f l x ys)

module _ {C : Type 0} where
  either_way : (b : Bool) (x : Entry C) (l : List (Entry C)) → 0 < length l → 0 < length (cond b (x ∷ l) l)
  either_way true x l lt = omega arith
  either_way false x l lt = lt

  -- an entry of the history is one of its pass's
  own_there : (h : List (Entry C)) (e : Entry C) → Has h e → 0 < length (of_pass e.pass h)
  own_there [] e has = absurd has
  own_there (x ∷ xs) e has = ⊎_elim
      (λ is. let same = eq-eqb x.pass e.pass (ap (λ (y : Entry C). y.pass) is) in
      subst (λ b. 0 < length (cond b (x ∷ of_pass e.pass xs) (of_pass e.pass xs))) (sym same) (omega arith))
      (λ t. let more = own_there xs e t in either_way (eqb x.pass e.pass) x (of_pass e.pass xs) more) has

  -- each pass that is dealt is of the desk
  dealt_desk : (seen : List (Entry C)) (d : DeskId) (n : ℕ) (p : Held C) → Has (dealt seen d n) p → p.desk ≡ d
  dealt_desk seen d zero p has = absurd has
  dealt_desk seen d (suc n) p has =
      ⊎_elim (dealt_desk seen d n p) (λ t. ⊎_elim (λ is. sym (ap (λ (q : Held C). q.desk) is)) (λ f. absurd f) t)
      (has_either (dealt seen d n) (held d n seen seen ∷ []) p has)

  pub all_dealt : (seen : List (Entry C)) (d : DeskId) (n : ℕ) (l : List (Held C)) → l ≡ dealt seen d n → All (λ (p : Held C). p.desk ≡ d) l
  all_dealt seen d n l is =
      subst (λ (m : List (Held C)). All (λ (p : Held C). p.desk ≡ d) m) (sym is) (all_has (λ (p : Held C). p.desk ≡ d) (dealt seen d n) (dealt_desk seen d n))

  pub unites : (passes : List (Held C)) (h : List (Entry C)) → United (map past_of passes) h → Unites passes h
  unites passes h u = record {
    past = u.before;
    later = u.later;
    split = u.split;
    before = all_has (λ (p : Held C). p.before ≡ u.before) passes (λ p has. (u.each (past_of p) (map_has past_of passes p has)).3);
    since = all_has (λ (p : Held C). Begins p.seen u.before) passes (λ p has. (u.each (past_of p) (map_has past_of passes p has)).2);
    begins = all_has (λ (p : Held C). Begins h p.seen) passes (λ p has. (u.each (past_of p) (map_has past_of passes p has)).0);
    own = all_has (λ (p : Held C). of_pass p.number h ≡ of_pass p.number p.seen) passes (λ p has. (u.each (past_of p) (map_has past_of passes p has)).1);
    no_others = all_has (λ (e : Entry C). Any (λ (p : Held C). p.number ≡ e.pass) passes) u.later (λ e has.
        let x = u.no_others e has in
        let p = has_map past_of passes x.0 x.1 in
        any_has (λ (p : Held C). p.number ≡ e.pass) passes p.0 p.1 (ap (λ (y : Past C). y.number) p.2 ∙ x.2));
  }

module _ {C O : Type 0} (number : O → ℕ) (stands_for : O → List (Entry C) → Type 0) where
  -- a seat that has as many passes as the desk was set up with has all that any seat has
  only_seat : (count : ℕ) (s : State (Option O) (View C)) (id j : ℕ) (v u : View C) → Turns number stands_for count s → get_elem? s.views id ≡ some v → count ≤ length v.pasts → get_elem? s.views j ≡ some u → 0 < length u.pasts → u ≡ v
  only_seat count s id j v u g at all d some_pass = dite (ℕ_discrete j id)
      (λ is. at_once s.views id u v (subst (λ i. get_elem? s.views i ≡ some u) is d) at)
      (λ not. let two = total_two pasts_of s.views j id u v not d at in let sum = g.pasts in absurd (omega arith))

  -- and each entry's pass
  there_too : (count : ℕ) (s : State (Option O) (View C)) (id : ℕ) (v : View C) (g : Turns number stands_for count s) → get_elem? s.views id ≡ some v → count ≤ length v.pasts
      → (e : Entry C) → Has g.later e → (x : Past C) × Has v.pasts x × (x.number ≡ e.pass)
  there_too count s id v g at all e has = ⊎_elim
      (λ none_. let some_own = own_there g.later e has in let zero_own : length (of_pass e.pass g.later) ≡ 0 = ap length none_ in absurd (omega arith))
      (λ h. let same = only_seat count s id (g.seat_of e.pass) v h.0 g at all h.1 (has_some h.0.pasts h.2.0 h.2.1) in
      (h.2.0, subst (λ (u : View C). Has u.pasts h.2.0) same h.2.1, h.2.2))
      (g.known e.pass)

  -- a desk is closed with a seat that has all the passes: the object is in the slot, and stands for the history that they have together
  pub closes : (count id n : ℕ) (v : View C) (words : List ℕ) (slots : List (Option O)) → v.object ≡ Some n → count ≤ length v.pasts → 0 < length v.pasts → v.turn ≡ false → Final (Seen (Desked number stands_for count) id v) words slots
      → (o : O) × (get_elem? slots 0 ≡ some (Some o)) × (number o ≡ n) × ((h : List (Entry C)) × stands_for o h × United v.pasts h)
  closes count id n v words slots named all some_past still final =
      let s = final.0 in
      let at = final.1.1 in
      let g = opened number stands_for count s id n v final.1.0 at named in
      ⊎_elim
      (λ home.
      let o = home.0 in
      let there : get_elem? s.homes 0 ≡ some (some (Some o)) = ap (λ (hs : List (maybe.Option (Option O))). get_elem? hs 0) home.1 in
      let noted : v.object ≡ Some g.name = (g.fits id v at).named some_past in
      let name_is : number o ≡ n = home.2 ∙ cc (noted, named) in (
        o,
        final.4 0 (Some o) there,
        name_is,
        (
          g.log,
          home.3,
          record {
            before = g.past;
            later = g.later;
            split = g.split;
            each = λ x has. let f = (g.fits id v at).own x has in (f.1, f.2, f.3, f.4);
            no_others = λ e has. there_too count s id v g at all e has;
          },
        ),
      ))
      (λ out.
      let u = out.1.1 in
      let f = g.fits out.1.0 u out.1.2 in
      let owned = f.owned in
      let one : tickets_of u ≡ 1 = ap how_many (f.turn out.1.3).0 in
      let same = only_seat count s id out.1.0 v u g at all out.1.2 (omega arith) in
      absurd (cc (ap (λ (y : View C). y.turn) same, out.1.3, still)))
      g.slot

  -- what was in the slot is the object, of the number n, and stands for the history that these pasts have together
  abbrev pub Closed : ℕ → List (Past C) → Option O → Type 0
  Closed n pasts found = (o : O) × (found ≡ Some o) × (number o ≡ n) × ((h : List (Entry C)) × stands_for o h × United pasts h)

  pub closed_with : (key id n passes : ℕ) (m : Me (Option O) (View C)) (words : List ℕ) (slots : List (Option O)) (found : Option O) → key ≡ passes → 0 < passes → passes ≤ length m.0.pasts
      → m ≡ (view (Some n) m.0.pasts None false, []) → Final (Seen (Desked number stands_for key) id m.0) words slots → get_elem? slots 0 ≡ some found → Closed n m.0.pasts found
  closed_with key id n passes m words slots found key_is some_pass all rests final there =
      let c = closes key id n m.0 words slots (ap (λ (x : Me (Option O) (View C)). x.0.object) rests) (omega arith) (omega arith) (ap (λ (x : Me (Option O) (View C)). x.0.turn) rests) final in
      (c.0, some-injective found (Some c.0) (sym there ∙ c.1), c.2, c.3)
