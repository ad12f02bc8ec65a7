-- What a client keeps stays in order.
use Rattle.std.proofs.Common.{◌≡◌, ◌+◌, ◌<◌, ◌≤◌, ◌==◌, ℕ, suc, List, [], ◌∷◌, ◌++◌, length, take, drop, slice_get, slice_index_or, Bool, true, false, Option, Some, None, option_map, is_some, refl, sym, ap, ◌∙◌, subst, arith, add-one, length-append}
use Rattle.std.proofs.lemmas.Grind.{common_steps}
use Rattle.std.proofs.lemmas.Option.{slice_get-get_or}
use Rattle.std.specs.List.{remove}
use Rattle.std.specs.Vec.{vec_capacity}
use Rattle.game_trait.specs.Rules.{Rules}
use Rattle.player_sight.specs.declared.shown.Snapshot.{Snapshot}
use Rattle.client_predict.specs.Prediction.{guessed}
use Rattle.client_predict.specs.Stack.{after, guess_of, guesses, IsKept, KeepsRoom, StaysSettled}
use Rattle.client_predict.specs.declared.guess.Guess.{Guess}
use Rattle.client_predict.specs.declared.part.Part.{Part}
use Rattle.client_predict.specs.declared.waiting.Waiting.{Waiting}
use Rattle.client_predict.proofs.Stacks.{as_many, rolled_back, taken_out, waits_too}

nothing : {A : Type 0} (guess : Option A) → is_some guess ≡ false → guess ≡ None
nothing None h = refl
nothing (Some g) h = cc

-- the item at a place
at_place : {A : Type 0} (xs : List A) (i : ℕ) (x : A) → i < length xs → x ≡ slice_index_or xs i x → slice_get xs i ≡ Some x
at_place xs i x inside is = slice_get-get_or xs i x inside ∙ ap Some (sym is)

one_fewer : {A : Type 0} (xs : List A) (i most : ℕ) → i < length xs → length xs ≤ most → length (remove xs i) ≤ most
one_fewer xs i most h m = grind (arith, common_steps)

one_more : {A : Type 0} (xs : List A) (x : A) (most : ℕ) → length xs < most → length (xs ++ x ∷ []) ≤ most
one_more xs x most h = grind (arith, common_steps)

module _ {G : Type 0} (rules : Rules G) where
  -- an action more waits
  pub kept_with : (p q : Part G) (w : Waiting) (guess : Option (Guess G)) → IsKept rules p → length p.waiting.items < 32 → w.number ≡ (after p.settled p.guesses.items).number
      → guess ≡ option_map (guess_of (after p.settled p.guesses.items)) (guessed rules (after p.settled p.guesses.items) p.seat w.asked)
      → StaysSettled p q → q.waiting.items ≡ p.waiting.items ++ w ∷ [] → q.guesses.items ≡ p.guesses.items ++ guess ∷ [] → KeepsRoom p q → IsKept rules q
  kept_with p q w guess kept few same is stays ws gs room =
      let t = guesses rules p.seat p.settled p.waiting.items in
      let number : w.number ≡ (after p.settled t).number = same ∙ ap (λ g. (after p.settled g).number) kept.stack in
      record {
        stack = rw (gs, stays.1, stays.2, ws, is, kept.stack) (sym (waits_too rules p.seat p.settled p.waiting.items w number));
        few = rw ws (one_more p.waiting.items w 32 few);
        waiting_room = omega (arith, kept.waiting_room, room.0);
        guesses_room = omega (arith, kept.guesses_room, room.1);
      }

  -- an action of which nothing was guessed is taken out
  pub kept_without : (p q : Part G) (i : ℕ) (guess : Option (Guess G)) → IsKept rules p → i < length p.waiting.items → is_some guess ≡ false → guess ≡ slice_index_or p.guesses.items i guess
      → StaysSettled p q → q.waiting.items ≡ remove p.waiting.items i → q.guesses.items ≡ remove p.guesses.items i → KeepsRoom p q → IsKept rules q
  kept_without p q i guess kept inside none is stays ws gs room =
      let t = guesses rules p.seat p.settled p.waiting.items in
      let there : i < length t = rw (as_many rules p.seat p.settled p.waiting.items) inside in
      let is_there : guess ≡ slice_index_or t i guess = is ∙ ap (λ g. slice_index_or g i guess) kept.stack in
      let found : slice_get t i ≡ Some None = at_place t i guess there is_there ∙ ap Some (nothing guess none) in
      record {
        stack = rw (gs, stays.1, stays.2, ws, kept.stack) (taken_out rules p.seat p.settled p.waiting.items i found);
        few = rw ws (one_fewer p.waiting.items i 32 inside kept.few);
        waiting_room = omega (arith, kept.waiting_room, room.0);
        guesses_room = omega (arith, kept.guesses_room, room.1);
      }

  -- an action is taken out, and those after it are guessed anew
  pub kept_back : (p q : Part G) (i : ℕ) (fresh : List (Option (Guess G))) → IsKept rules p → i < length p.waiting.items
      → fresh ≡ guesses rules p.seat (after p.settled (take i p.guesses.items)) (drop (i + 1) p.waiting.items)
      → StaysSettled p q → q.waiting.items ≡ remove p.waiting.items i → q.guesses.items ≡ take i p.guesses.items ++ fresh → KeepsRoom p q → IsKept rules q
  kept_back p q i fresh kept inside is stays ws gs room = record {
    stack = rw (gs, stays.1, stays.2, ws, is, kept.stack, add-one) (rolled_back rules p.seat p.settled p.waiting.items i);
    few = rw ws (one_fewer p.waiting.items i 32 inside kept.few);
    waiting_room = omega (arith, kept.waiting_room, room.0);
    guesses_room = omega (arith, kept.guesses_room, room.1);
  }

  -- there is room for the guesses of the actions after a place
  pub room_after : (p : Part G) (i : ℕ) (s : Snapshot G) (fresh : List (Option (Guess G))) → IsKept rules p → i < length p.waiting.items
      → fresh ≡ guesses rules p.seat s (drop (i + 1) p.waiting.items) → i + length fresh ≤ vec_capacity p.guesses
  room_after p i s fresh kept inside is =
      let many : length fresh ≡ length (drop (i + 1) p.waiting.items) = ap length is ∙ as_many rules p.seat s (drop (i + 1) p.waiting.items) in
      let few : length p.waiting.items ≤ 32 = kept.few in
      let room : 32 ≤ vec_capacity p.guesses = kept.guesses_room in
      grind (arith, common_steps)
