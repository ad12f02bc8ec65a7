-- What the links of all places count for.
use Rattle.std.proofs.Common.{◌≡◌, ◌+◌, ◌<◌, ℕ, zero, suc, Bool, false, List, [], ◌∷◌, ◌++◌, length, take, drop, set, slice_index_or, Option, Some, None, is_some, option_map, refl, ap, sym, ◌∙◌, arith}
use Rattle.std.proofs.lemmas.List.{take_at}
use Rattle.std.proofs.lemmas.List.Sums.{sum_by-cons, sum_by-set}
use Rattle.board_links.specs.declared.link.Came.{Came}
use Rattle.board_links.specs.declared.link.SessionEnd.{SessionEnd}
use Rattle.link_rounds.specs.Places.{About, Round, Seat, StepOf, Steps, seated, times, weight}

-- what a call wrote over a whole list
pub written : {X : Type 0} (n : ℕ) (xs ys : List X) → length ys ≡ n → take n (ys ++ drop (length ys) xs) ≡ ys
written n xs ys len = take_at ys (drop (length ys) xs) n len

module _ {L : Type 0} (one : Bool → ℕ) (is_bot : L → Bool) where
  no_weight : (link : Option L) → is_some link ≡ false → weight one is_bot link ≡ 0
  no_weight None e = refl
  no_weight (Some link) e = absurd (cc)

  by_sort : (link : Option L) → weight one is_bot link ≡ weight one (λ bot. bot) (option_map is_bot link)
  by_sort None = refl
  by_sort (Some link) = refl

  pub same_weight : (x y : Option L) → option_map is_bot x ≡ option_map is_bot y → weight one is_bot x ≡ weight one is_bot y
  same_weight x y e = by_sort x ∙ (ap (weight one (λ bot. bot)) e ∙ sym (by_sort y))

module _ {S L : Type 0} (one : Bool → ℕ) (is_bot : L → Bool) where
  pub none_seated : (places : List (Seat S L)) → ((k : ℕ) (d : Seat S L) → k < length places → is_some (slice_index_or places k d).link ≡ false) → seated one is_bot places ≡ 0
  none_seated [] h = refl
  none_seated (p ∷ places) h =
      let first = no_weight one is_bot p.link (h 0 p (omega arith)) in
      let more = none_seated places (λ k d low. h (suc k) d (omega (arith, low))) in
      omega (arith, sum_by-cons (λ (q : Seat S L). weight one is_bot q.link) p places, first, more)

  pub same_seated : (xs ys : List (Seat S L)) → length ys ≡ length xs → ((k : ℕ) (d : Seat S L) → k < length xs → option_map is_bot (slice_index_or ys k d).link ≡ option_map is_bot (slice_index_or xs k d).link)
      → seated one is_bot ys ≡ seated one is_bot xs
  same_seated [] [] e h = refl
  same_seated [] (y ∷ ys) e h = absurd (omega (arith, e))
  same_seated (x ∷ xs) [] e h = absurd (omega (arith, e))
  same_seated (x ∷ xs) (y ∷ ys) e h =
      let first = same_weight one is_bot y.link x.link (h 0 x (omega arith)) in
      let more = same_seated xs ys (omega (arith, e)) (λ k d low. h (suc k) d (omega (arith, low))) in
      omega (arith, sum_by-cons (λ (q : Seat S L). weight one is_bot q.link) x xs, sum_by-cons (λ (q : Seat S L). weight one is_bot q.link) y ys, first, more)

  -- a place that had a link of this sort has none
  pub left : (places : List (Seat S L)) (n : ℕ) (q d : Seat S L) (link : L) → n < length places → option_map is_bot (slice_index_or places n d).link ≡ Some (is_bot link) → q.link ≡ None
      → seated one is_bot (set places n q) + one (is_bot link) ≡ seated one is_bot places
  left places n q d link low was is =
      let before = same_weight one is_bot (slice_index_or places n d).link (Some link) was in
      let after = ap (weight one is_bot) is in
      omega (arith, sum_by-set (λ (p : Seat S L). weight one is_bot p.link) places n q d low, before, after)

module _ {S L : Type 0} (turn : S → List Came → List ℕ → Option SessionEnd → S → Option (List Came) → Option (List ℕ) → Type 0) (leave : S → S → Type 0) (a : About L) where
  step_of_link : (s : S) (link : Option L) (end : Option SessionEnd) (q : Seat S L) → StepOf turn leave a s link end q → option_map a.is_bot q.link ≡ option_map a.is_bot link
  step_of_link s None end q step = ap (λ (x : Seat S L). option_map a.is_bot x.link) step
  step_of_link s (Some link) (Some why) q step = ap (λ (x : Seat S L). option_map a.is_bot x.link) step
  step_of_link s (Some link) None q step = ap (option_map a.is_bot) step.1 ∙ ap Some step.2

  steps_link : (n : ℕ) (p q : Seat S L) → Steps turn leave a n p q → option_map a.is_bot q.link ≡ option_map a.is_bot p.link
  steps_link zero p q is = ap (λ (x : Seat S L). option_map a.is_bot x.link) is
  steps_link (suc n) p q so = step_of_link so.0.service so.0.link so.0.end q so.2 ∙ steps_link n p so.0 so.1

  -- a round gives no place a link and takes none away
  pub round_seated : (one : Bool → ℕ) (numbers : List ℕ) (places after : List (Seat S L)) → Round turn leave a numbers places after → seated one a.is_bot after ≡ seated one a.is_bot places
  round_seated one numbers places after round = same_seated one a.is_bot places after round.0 (λ k d low. steps_link (times k numbers) (slice_index_or places k d) (slice_index_or after k d) (round.1 k d low))
