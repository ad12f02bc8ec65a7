-- A change of what stands at one place of a list, and at so many places from the first on.
use Rattle.std.specs.Prelude.{ℕ, zero, suc, List, [], ◌∷◌}

abbrev pub at_place : {A : Type 0} → ℕ → (A → A) → List A → List A
at_place place change [] = []
at_place zero change (x ∷ xs) = change x ∷ xs
at_place (suc place) change (x ∷ xs) = x ∷ at_place place change xs

abbrev pub up_to_place : {A : Type 0} → ℕ → (A → A) → List A → List A
up_to_place zero change xs = xs
up_to_place (suc place) change [] = []
up_to_place (suc place) change (x ∷ xs) = change x ∷ up_to_place place change xs
