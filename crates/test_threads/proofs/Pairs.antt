-- What holds of two holds of the list of both.
use Rattle.std.proofs.Common.{◌≡◌, List, [], ◌∷◌, subst, sym}
use Rattle.std.specs.Prelude.{All}
use Rattle.std.proofs.lemmas.List.Elements.{All-nil, All-cons}

pub both : {A : Type 0} (P : A → Type 0) (x y : A) (xs : List A) → xs ≡ x ∷ y ∷ [] → P x → P y → All P xs
both P x y xs is px py = subst (All P) (sym is) (All-cons P x (y ∷ []) px (All-cons P y [] py (All-nil P)))
