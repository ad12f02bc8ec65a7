-- One step more of the steps that are done, in the lists that a trail is seen as.
use Rattle.std.proofs.Common.{◌≡◌, ℕ, ◌≤◌, ◌+◌, ◌<◌, List, [], ◌∷◌, ◌++◌, length, get_or, map, take, drop, reverse, Some, slice_get, arith, ap, sym, subst, ◌∙◌, refl, add-one, drop-cons, length-append}
use Rattle.std.proofs.Math.Seq.{take-suc}
use Rattle.std.proofs.lemmas.List.{reverse-append, length-map, map-append, take-map, take_all, take_at, drop_all, get_or-map, get_or_at, length-take-le}
use Rattle.undo_redo.specs.Kept.{Kept}
use Rattle.undo_redo.specs.Taken.{Taken}
use Rattle.undo_redo.specs.Wound.{acts_of, states_of, wound}

back_more : {A : Type 0} (acts : List A) (n : ℕ) (d : A) → n < length acts → reverse (take (n + 1) acts) ≡ get_or acts n d ∷ reverse (take n acts)
back_more acts n d h = ap (λ k. reverse (take k acts)) (add-one n) ∙ ap reverse (take-suc acts n d h) ∙ reverse-append (take n acts) (get_or acts n d ∷ [])

drop_more : {A : Type 0} (acts : List A) (n : ℕ) (d : A) → n < length acts → drop n acts ≡ get_or acts n d ∷ drop (n + 1) acts
drop_more acts n d h = drop-cons acts n d h ∙ ap (λ k. get_or acts n d ∷ drop k acts) (sym (add-one n))

-- a trail is another one with an act done that was undone there
pub record Shifts {S A : Type 0} (act : A) (left right : Kept S A) : Type 0 where
  pub first : right.first ≡ left.first
  pub done : right.done ≡ act ∷ left.done
  pub undone : left.undone ≡ act ∷ right.undone
  pub past : right.past ≡ left.now ∷ left.past
  pub ahead : left.ahead ≡ right.now ∷ right.ahead

-- a step of a list that isn't empty
one_of : {X : Type 0} (xs : List X) (n : ℕ) → n < length xs → X
one_of [] n h = absurd (omega arith)
one_of (x ∷ xs) n h = x

pub act_at : {S A : Type 0} (steps : List (Taken S A)) (n : ℕ) → n < length steps → A
act_at steps n h = get_or (acts_of steps) n (one_of steps n h).act

pub shifts : {S A : Type 0} (first : S) (steps : List (Taken S A)) (n : ℕ) (h : n < length steps) → Shifts (act_at steps n h) (wound first steps n) (wound first steps (n + 1))
unfolding act_at
shifts first steps n h =
    let d = (one_of steps n h).act in
    let acts : n < length (acts_of steps) = omega (arith, length-map steps (λ s. s.act)) in
    let states : n < length (states_of steps) = omega (arith, length-map steps (λ s. s.after)) in
    let all : n < length (first ∷ states_of steps) = omega arith in
    record {
      first = refl;
      done = back_more (acts_of steps) n d acts;
      undone = drop_more (acts_of steps) n d acts;
      past = back_more (first ∷ states_of steps) n first all;
      ahead = drop_more (states_of steps) n first states ∙ ap (λ s. s ∷ drop (n + 1) (states_of steps)) (sym (ap (λ k. get_or (first ∷ states_of steps) k first) (add-one n)));
    }

-- the first elements of a list, and one more
ends : {X : Type 0} (xs : List X) (n : ℕ) (x : X) → n ≤ length xs → take (n + 1) (take n xs ++ x ∷ []) ≡ take n xs ++ x ∷ []
ends xs n x h = take_all (n + 1) (take n xs ++ x ∷ []) (let l : length (take n xs) ≡ n = length-take-le n xs h in omega (arith, length-append (take n xs) (x ∷ [])))

end_of : {X : Type 0} (xs : List X) (n : ℕ) (x : X) → n ≤ length xs → drop (n + 1) (take n xs ++ x ∷ []) ≡ []
end_of xs n x h = drop_all (n + 1) (take n xs ++ x ∷ []) (let l : length (take n xs) ≡ n = length-take-le n xs h in omega (arith, length-append (take n xs) (x ∷ [])))

last_of : {X : Type 0} (xs : List X) (n : ℕ) (x d : X) → n ≤ length xs → get_or (take n xs ++ x ∷ []) n d ≡ x
last_of xs n x d h = get_or_at (take n xs) x [] d n (length-take-le n xs h)

-- a step is put after those that are done
abbrev pub put_on : {S A : Type 0} → Taken S A → Kept S A → Kept S A
put_on step t = record { first = t.first; done = step.act ∷ t.done; undone = []; now = step.after; past = t.now ∷ t.past; ahead = [] }

mapped : {X Y : Type 0} (f : X → Y) (xs : List X) (n : ℕ) (x : X) → map f (take n xs ++ x ∷ []) ≡ take n (map f xs) ++ f x ∷ []
mapped f xs n x = map-append f (take n xs) (x ∷ []) ∙ ap (λ ys. ys ++ f x ∷ []) (sym (take-map f n xs))

puts : {S A : Type 0} (first : S) (steps : List (Taken S A)) (n : ℕ) (step : Taken S A) → n ≤ length steps → wound first (take n steps ++ step ∷ []) (n + 1) ≡ put_on step (wound first steps n)
puts {S} {A} first steps n step h =
    let acts = acts_of steps in
    let all : List S = first ∷ states_of steps in
    let acts_long : n ≤ length acts = omega (arith, length-map steps (λ s. s.act)) in
    let states_long : n ≤ length (states_of steps) = omega (arith, length-map steps (λ s. s.after)) in
    let all_long : n < length all = omega arith in
    let acts_are : acts_of (take n steps ++ step ∷ []) ≡ take n acts ++ step.act ∷ [] = mapped (λ s. s.act) steps n step in
    let states_are : states_of (take n steps ++ step ∷ []) ≡ take n (states_of steps) ++ step.after ∷ [] = mapped (λ s. s.after) steps n step in
    let done : reverse (take (n + 1) (acts_of (take n steps ++ step ∷ []))) ≡ step.act ∷ reverse (take n acts) =
    ap (λ xs. reverse (take (n + 1) xs)) acts_are ∙ ap reverse (ends acts n step.act acts_long) ∙ reverse-append (take n acts) (step.act ∷ []) in
    let undone : drop (n + 1) (acts_of (take n steps ++ step ∷ [])) ≡ [] = ap (drop (n + 1)) acts_are ∙ end_of acts n step.act acts_long in
    let ahead : drop (n + 1) (states_of (take n steps ++ step ∷ [])) ≡ [] = ap (drop (n + 1)) states_are ∙ end_of (states_of steps) n step.after states_long in
    let now : get_or (first ∷ states_of (take n steps ++ step ∷ [])) (n + 1) first ≡ step.after =
    ap (λ k. get_or (first ∷ states_of (take n steps ++ step ∷ [])) k first) (add-one n)
    ∙ ap (λ xs. get_or xs n first) states_are ∙ last_of (states_of steps) n step.after first states_long in
    let past : reverse (take (n + 1) (first ∷ states_of (take n steps ++ step ∷ []))) ≡ get_or all n first ∷ reverse (take n all) =
    ap (λ k. reverse (take k (first ∷ states_of (take n steps ++ step ∷ [])))) (add-one n)
    ∙ ap (λ xs. reverse (first ∷ take n xs)) states_are
    ∙ ap (λ xs. reverse (first ∷ xs)) (fronts (states_of steps) n step.after states_long)
    ∙ ap (λ k. reverse (take k all)) (sym (add-one n)) ∙ back_more all n first all_long in
    all_same done undone now past ahead
  where
    fronts : {X : Type 0} (xs : List X) (n : ℕ) (x : X) → n ≤ length xs → take n (take n xs ++ x ∷ []) ≡ take n xs
    fronts xs n x h = take_at (take n xs) (x ∷ []) n (length-take-le n xs h)

    all_same : {S A : Type 0} {first now now' : S} {done done' undone undone' : List A} {past past' ahead ahead' : List S} → done ≡ done' → undone ≡ undone' → now ≡ now' → past ≡ past' → ahead ≡ ahead'
        → let t : Kept S A = record { first = first; done = done; undone = undone; now = now; past = past; ahead = ahead } in
        let u : Kept S A = record { first = first; done = done'; undone = undone'; now = now'; past = past'; ahead = ahead' } in t ≡ u
    all_same d u n p a = cc

-- the act at a place is the one that stands there
act_is : {S A : Type 0} (steps : List (Taken S A)) (n : ℕ) (h : n < length steps) (told : Taken S A) → told ≡ get_or steps n told → act_at steps n h ≡ told.act
unfolding act_at
act_is steps n h told is = get_or-map (λ s. s.act) steps n told (one_of steps n h).act h ∙ ap (λ s. s.act) (sym is)

-- the state after so many steps and one more
state_is : {S A : Type 0} (first : S) (steps : List (Taken S A)) (n : ℕ) (told : Taken S A) → n < length steps → told ≡ get_or steps n told → (wound first steps (n + 1)).now ≡ told.after
state_is first steps n told h is =
    ap (λ k. get_or (first ∷ states_of steps) k first) (add-one n) ∙ get_or-map (λ s. s.after) steps n told first h ∙ ap (λ s. s.after) (sym is)

module _ {S A : Type 0} (t : Kept S A) (first : S) (steps : List (Taken S A)) where
  pub last_told : (count n : ℕ) (told : Taken S A) (act : A) → wound first steps count ≡ t → count ≡ n + 1 → n < length steps → told ≡ get_or steps n told → act ≡ told.act → Some act ≡ slice_get t.done 0
  last_told count n told act seen more h is e =
      ap (λ a. Some a) (e ∙ sym (act_is steps n h told is))
      ∙ sym (ap (λ xs. slice_get xs 0) (sym (ap (λ u. u.done) seen) ∙ ap (λ k. (wound first steps k).done) more ∙ (shifts first steps n h).done))

  pub next_told : (n : ℕ) (told : Taken S A) (act : A) → wound first steps n ≡ t → n < length steps → told ≡ get_or steps n told → act ≡ told.act → Some act ≡ slice_get t.undone 0
  next_told n told act seen h is e =
      ap (λ a. Some a) (e ∙ sym (act_is steps n h told is))
      ∙ sym (ap (λ xs. slice_get xs 0) (sym (ap (λ u. u.undone) seen) ∙ (shifts first steps n h).undone))

  pub ahead_told : (n : ℕ) (told : Taken S A) (state : S) → wound first steps n ≡ t → n < length steps → told ≡ get_or steps n told → state ≡ told.after → Some state ≡ slice_get t.ahead 0
  ahead_told n told state seen h is e =
      ap (λ s. Some s) (e ∙ sym (state_is first steps n told h is))
      ∙ sym (ap (λ xs. slice_get xs 0) (sym (ap (λ u. u.ahead) seen) ∙ (shifts first steps n h).ahead))

  pub before_told : (count n : ℕ) (told : Taken S A) (state : S) → wound first steps count ≡ t → count ≡ n + 1 + 1 → n + 1 < length steps → told ≡ get_or steps n told → state ≡ told.after → Some state ≡ slice_get t.past 0
  before_told count n told state seen more h is e =
      ap (λ s. Some s) (e ∙ sym (state_is first steps n told (omega arith) is))
      ∙ sym (ap (λ xs. slice_get xs 0) (sym (ap (λ u. u.past) seen) ∙ ap (λ k. (wound first steps k).past) more ∙ (shifts first steps (n + 1) h).past))

  -- a step less, a step more, and a step put in
  pub shifts_back : (count n : ℕ) (h : n < length steps) → wound first steps count ≡ t → count ≡ n + 1 → Shifts (act_at steps n h) (wound first steps n) t
  shifts_back count n h seen more = subst (λ k. Shifts (act_at steps n h) (wound first steps n) k) (ap (λ k. wound first steps k) (sym more) ∙ seen) (shifts first steps n h)

  pub shifts_on : (n : ℕ) (h : n < length steps) → wound first steps n ≡ t → Shifts (act_at steps n h) t (wound first steps (n + 1))
  shifts_on n h seen = subst (λ k. Shifts (act_at steps n h) k (wound first steps (n + 1))) seen (shifts first steps n h)

  pub put_to : (n : ℕ) (later : List (Taken S A)) (step : Taken S A) → wound first steps n ≡ t → n ≤ length steps → later ≡ take n steps ++ step ∷ [] → put_on step t ≡ wound first later (n + 1)
  put_to n later step seen h e = ap (put_on step) (sym seen) ∙ sym (puts first steps n step h) ∙ ap (λ xs. wound first xs (n + 1)) (sym e)
