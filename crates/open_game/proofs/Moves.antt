-- What a move keeps follows from what its parts keep: a choice of two, a word that is drawn, a state that is made or not.
use Rattle.std.proofs.Common.{◌≡◌, ℕ, zero, suc, Bool, true, false, if◌then◌else◌, IsTrue, List, [], ◌∷◌, Option, Some, None, option_and_then, refl}
use Rattle.std.proofs.lemmas.Bool.{and_from, and_parts}
use Rattle.std.specs.List.{list_all}
use Rattle.std.specs.Prelude.{IfSome, slice_set}
use Rattle.game_sheet.specs.declared.sheet.Sheet.{Sheet}
use Rattle.game_trait.specs.Deed.{Deed, drawing}
use Rattle.game_trait.specs.Lawful.{GivesOwn}
use Rattle.game_trait.specs.Queues.{QueuesInSheet}
use Rattle.open_game.specs.OpenRules.{made}

-- ---- own states stay own

module _ {G E : Type 0} (own : G → Bool) where
  pub either_own : (test : Bool) (one other : Deed G E) → (test ≡ true → GivesOwn own one) → (test ≡ false → GivesOwn own other) → GivesOwn own (if test then one else other)
  either_own true one other p q = p refl
  either_own false one other p q = q refl

  pub drawing_own : (none_left : E) (words : List ℕ) (go : ℕ → List ℕ → Deed G E) → ((word : ℕ) (left : List ℕ) → GivesOwn own (go word left)) → GivesOwn own (drawing none_left words go)
  drawing_own none_left [] go p = tt
  drawing_own none_left (word ∷ left) go p = p word left

pub made_own : {G : Type 0} (own : G → Bool) (o : Option G) (words : List ℕ) → IfSome o (λ g. IsTrue (own g)) → GivesOwn own (made o words)
made_own own None words is = tt
made_own own (Some g) words is = is

-- ---- what is queued names rows of the sheet

module _ {G E : Type 0} (sheet : Sheet) where
  pub either_keeps : (test : Bool) (one other : Deed G E) → QueuesInSheet sheet one → QueuesInSheet sheet other → QueuesInSheet sheet (if test then one else other)
  either_keeps true one other p q = p
  either_keeps false one other p q = q

  pub drawing_keeps : (none_left : E) (words : List ℕ) (go : ℕ → List ℕ → Deed G E) → ((word : ℕ) (left : List ℕ) → QueuesInSheet sheet (go word left)) → QueuesInSheet sheet (drawing none_left words go)
  drawing_keeps none_left [] go p = tt
  drawing_keeps none_left (word ∷ left) go p = p word left

pub made_keeps : {G : Type 0} (sheet : Sheet) (o : Option G) (words : List ℕ) → QueuesInSheet sheet (made o words)
made_keeps sheet None words = tt
made_keeps sheet (Some g) words = tt

-- ---- lists and answers

-- a list keeps its form where one of its items is set to another in form
pub all_set : {A : Type 0} (own : A → Bool) (xs : List A) (place : ℕ) (x : A) → own x ≡ true → list_all own xs ≡ true → list_all own (slice_set xs place x) ≡ true
all_set own [] place x fit all = refl
all_set own (y ∷ xs) zero x fit all = and_from (own x) (list_all own xs) fit (and_parts (own y) (list_all own xs) all).1
all_set own (y ∷ xs) (suc place) x fit all =
    let parts = and_parts (own y) (list_all own xs) all in
    and_from (own y) (list_all own (slice_set xs place x)) parts.0 (all_set own xs place x fit parts.1)

-- an answer to an answer
pub some_says : {A B : Type 0} (f : A → Option B) (P : B → Type 0) → ((x : A) → IfSome (f x) P) → (o : Option A) → IfSome (option_and_then f o) P
some_says f P says None = tt
some_says f P says (Some x) = says x
