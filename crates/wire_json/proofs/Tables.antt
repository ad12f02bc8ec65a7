-- A word that a table gives something for is the word of that.
use Rattle.std.proofs.Common.{◌≡◌, ℕ, List, [], ◌∷◌, Bool, true, false, cond, ◌⊎◌, inl, inr, Option, Some, bytes_eq, refl, ap, ◌∙◌}
use Rattle.std.proofs.lemmas.Slice.Eq.{bytes_eq-Decides}
use Rattle.std.specs.List.{AllByRecursion}
use Rattle.std.specs.Map.{lookup}

looked_up : {A : Type 0} (b : Bool) (x y : A) (rest : Option A) → cond b (Some x) rest ≡ Some y → ((b ≡ true) × (x ≡ y)) ⊎ (rest ≡ Some y)
looked_up true x y rest e = inl (refl, cc)
looked_up false x y rest e = inr e

pub table_is : {A : Type 0} (word : A → List ℕ) (s : List ℕ) (table : List (List ℕ × A)) (x : A) → AllByRecursion (λ row. row.0 ≡ word row.1) table → lookup (bytes_eq s) table ≡ Some x → s ≡ word x
table_is word s [] x h e = absurd (cc)
table_is word s (row ∷ table) x h e = elim (looked_up (bytes_eq s row.0) row.1 x (lookup (bytes_eq s) table) e) [
  | inl p ↦ (bytes_eq-Decides s row.0).0 p.0 ∙ h.0 ∙ ap word p.1
  | inr p ↦ table_is word s table x h.1 p
]
