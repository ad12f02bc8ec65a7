-- Dice and shuffles, made of words: a die takes one word, and a shuffle one word for each place but the first.
use Rattle.std.specs.Prelude.{◌≡◌, ℕ, zero, suc, ◌+◌, ◌-◌, ◌*◌, ◌/◌, ◌^◌, Option, Some, None, List, [], ◌∷◌, length, swap}

-- the face of a die with n faces that a word gives
abbrev pub die : ℕ → ℕ → ℕ
die n word = 1 + word * n / 2 ^ 32

-- a face was rolled by the first of the words that were left
pub record Rolled (n face : ℕ) (before after : List ℕ) : Type 0 where
  pub word : ℕ
  pub drawn : before ≡ word ∷ after
  pub shown : face ≡ die n word

-- the list after the exchanges at place i, then i - 1 and so on down to 1, and the words left; none where the words run out
unfoldable pub shuffled_from : ℕ → List ℕ → List ℕ → Option (List ℕ × List ℕ)
shuffled_from zero list left = Some (list, left)
shuffled_from (suc i) list [] = None
shuffled_from (suc i) list (word ∷ left) = let place = suc i in shuffled_from i (swap list place (die (place + 1) word - 1)) left

-- a whole shuffle: it begins at the last place
abbrev pub shuffled : List ℕ → List ℕ → Option (List ℕ × List ℕ)
shuffled list left = shuffled_from (length list - 1) list left
