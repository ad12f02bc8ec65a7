-- The stack of guesses: what is shown after it, and what is left of it when an action more waits, when one is taken out, and when another
-- snapshot is settled.
use Rattle.std.proofs.Common.{◌≡◌, ◌+◌, ◌<◌, ◌==◌, ℕ, zero, suc, List, [], ◌∷◌, ◌++◌, length, take, drop, fold, slice_get, slice_index_or, Bool, true, false, ◌||◌, if◌then◌else◌, Option, Some, None, option_map, refl, sym, ap, ◌∙◌, subst, arith}
use Rattle.std.proofs.lemmas.Bool.Decides.{nat_tests}
use Rattle.std.proofs.lemmas.List.{take_more}
use Rattle.std.specs.List.{remove}
use Rattle.game_sheet.specs.declared.ctx.Ctx.{Ctx}
use Rattle.game_trait.specs.Rules.{Rules}
use Rattle.move_log.specs.declared.entry.Entry.{Entry}
use Rattle.player_sight.specs.declared.shown.Snapshot.{Snapshot}
use Rattle.wire_json.specs.Resolve.{act_of, ignores_number}
use Rattle.client_predict.specs.Acting.{predicted}
use Rattle.client_predict.specs.Prediction.{guessed}
use Rattle.client_predict.specs.Shown.{counts_on, shown}
use Rattle.client_predict.specs.Stack.{after, ahead, guess_of, guesses, tried}
use Rattle.client_predict.specs.declared.guess.Guess.{Guess}
use Rattle.client_predict.specs.declared.waiting.Waiting.{Waiting}
use Rattle.std.specs.Prelude.{unwrap_or}
use Rattle.client_predict.proofs.Pieces.{one_further, taken_on}

one : {G : Type 0} (s : Snapshot G) (counts : Bool) (guess : Option G)
    → ahead s (if counts then option_map (guess_of s) guess else None) ≡ (if counts then unwrap_or (option_map (one_further s) guess) s else s)
one s true (Some g) = refl
one s true None = refl
one s false guess = refl

-- a guess is told as the prediction that it stands for
pub told_alike : {G : Type 0} (s : Snapshot G) (guess : Option G) → predicted (option_map (guess_of s) guess) ≡ predicted (option_map (one_further s) guess)
told_alike s None = refl
told_alike s (Some g) = refl

same_number : (n m : ℕ) → n ≡ m → (n == m) ≡ true
same_number n m same = grind (arith, nat_tests)

module _ {G : Type 0} (rules : Rules G) (seat : Option ℕ) where
  -- one guess is one step of what is shown
  step : (s : Snapshot G) (w : Waiting) → ahead s (tried rules seat s w) ≡ taken_on rules seat s w
  step s w = one s (counts_on rules.sheet s w) (guessed rules s seat w.asked)

  -- what is shown is what the guesses come to
  pub shows : (s : Snapshot G) (ws : List Waiting) → after s (guesses rules seat s ws) ≡ shown rules seat s ws
  shows s [] = refl
  shows s (w ∷ ws) = shows (ahead s (tried rules seat s w)) ws ∙ ap (λ t. shown rules seat t ws) (step s w)

  pub as_many : (s : Snapshot G) (ws : List Waiting) → length (guesses rules seat s ws) ≡ length ws
  as_many s [] = refl
  as_many s (w ∷ ws) = ap suc (as_many (ahead s (tried rules seat s w)) ws)

  pub more : (s : Snapshot G) (some others : List Waiting)
      → guesses rules seat s (some ++ others) ≡ guesses rules seat s some ++ guesses rules seat (after s (guesses rules seat s some)) others
  more s [] others = refl
  more s (w ∷ some) others = ap (λ gs. tried rules seat s w ∷ gs) (more (ahead s (tried rules seat s w)) some others)

  -- the first guesses are those of the first actions
  pub first : (s : Snapshot G) (ws : List Waiting) (n : ℕ) → take n (guesses rules seat s ws) ≡ guesses rules seat s (take n ws)
  first s ws zero = refl
  first s [] (suc n) = refl
  first s (w ∷ ws) (suc n) = ap (λ gs. tried rules seat s w ∷ gs) (first (ahead s (tried rules seat s w)) ws n)

  -- an action is taken out, and those after it are guessed anew
  pub rolled_back : (s : Snapshot G) (ws : List Waiting) (n : ℕ)
      → take n (guesses rules seat s ws) ++ guesses rules seat (after s (take n (guesses rules seat s ws))) (drop (suc n) ws) ≡ guesses rules seat s (remove ws n)
  rolled_back s ws n =
      subst (λ gs. gs ++ guesses rules seat (after s gs) (drop (suc n) ws) ≡ guesses rules seat s (remove ws n)) (sym (first s ws n)) (sym (more s (take n ws) (drop (suc n) ws)))

  -- a guess more, as actions are gone through in their order
  pub next_guess : (s : Snapshot G) (ws : List Waiting) (i : ℕ) (w : Waiting) (gs : List (Option (Guess G))) (guess : Option (Guess G)) → i < length ws → w ≡ slice_index_or ws i w
      → gs ≡ guesses rules seat s (take i ws) → guess ≡ tried rules seat (after s gs) w → gs ++ guess ∷ [] ≡ guesses rules seat s (take (i + 1) ws)
  next_guess s ws i w gs guess inside is so_far next =
      let one_more : take (i + 1) ws ≡ take i ws ++ w ∷ [] = take_more ws i w inside ∙ ap (λ v. take i ws ++ v ∷ []) (sym is) in
      subst (λ vs. gs ++ guess ∷ [] ≡ guesses rules seat s vs) (sym one_more) (rw (next, so_far) (sym (more s (take i ws) (w ∷ []))))

  chosen : (n m : ℕ) (other : Bool) (guess : Option (Guess G)) → n ≡ m → (if (n == m) || other then guess else None) ≡ guess
  chosen n m other guess same = rw (same_number n m same) refl

  -- one action more waits, made for the number that is shown
  pub waits_too : (s : Snapshot G) (ws : List Waiting) (w : Waiting) → w.number ≡ (after s (guesses rules seat s ws)).number
      → guesses rules seat s (ws ++ w ∷ []) ≡ guesses rules seat s ws ++ option_map (guess_of (after s (guesses rules seat s ws))) (guessed rules (after s (guesses rules seat s ws)) seat w.asked) ∷ []
  waits_too s ws w same =
      let t = after s (guesses rules seat s ws) in
      more s ws (w ∷ []) ∙ ap (λ g. guesses rules seat s ws ++ g ∷ []) (chosen w.number t.number (ignores_number rules.sheet (act_of rules.sheet w.asked)) (option_map (guess_of t) (guessed rules t seat w.asked)) same)

  skipped : (s : Snapshot G) (w : Waiting) (ws : List Waiting) → tried rules seat s w ≡ None → guesses rules seat (ahead s (tried rules seat s w)) ws ≡ guesses rules seat s ws
  skipped s w ws none = ap (λ g. guesses rules seat (ahead s g) ws) none

  some_is : {A : Type 0} (a b : A) → Some a ≡ Some b → a ≡ b
  some_is a b e = cc

  -- an action of which nothing was guessed is taken out, and the guesses of the others stay
  pub taken_out : (s : Snapshot G) (ws : List Waiting) (n : ℕ) → slice_get (guesses rules seat s ws) n ≡ Some None
      → remove (guesses rules seat s ws) n ≡ guesses rules seat s (remove ws n)
  taken_out s [] n none = cc
  taken_out s (w ∷ ws) zero none = skipped s w ws (some_is _ _ none)
  taken_out s (w ∷ ws) (suc n) none = ap (λ gs. tried rules seat s w ∷ gs) (taken_out (ahead s (tried rules seat s w)) ws n none)

  on_guess : (number : ℕ) (ctx : Ctx) (g : G) (log other : List Entry) (guess : Option (Guess G)) (ws : List Waiting)
      → ((n : ℕ) (h : G) → guesses rules seat (record { number = n; ctx = ctx; g = h; log = log }) ws ≡ guesses rules seat (record { number = n; ctx = ctx; g = h; log = other }) ws)
      → guesses rules seat (ahead (record { number = number; ctx = ctx; g = g; log = log }) guess) ws ≡ guesses rules seat (ahead (record { number = number; ctx = ctx; g = g; log = other }) guess) ws
  on_guess number ctx g log other None ws rest = rest number g
  on_guess number ctx g log other (Some guess) ws rest = rest guess.number guess.g

  -- no guess looks at the log
  pub whatever_the_log : (number : ℕ) (ctx : Ctx) (g : G) (log other : List Entry) (ws : List Waiting)
      → guesses rules seat (record { number = number; ctx = ctx; g = g; log = log }) ws ≡ guesses rules seat (record { number = number; ctx = ctx; g = g; log = other }) ws
  whatever_the_log number ctx g log other [] = refl
  whatever_the_log number ctx g log other (w ∷ ws) =
      let s : Snapshot G = record { number = number; ctx = ctx; g = g; log = log } in
      ap (λ gs. tried rules seat s w ∷ gs) (on_guess number ctx g log other (tried rules seat s w) ws (λ n h. whatever_the_log n ctx h log other ws))
