-- What is appended in two parts is appended.
use Rattle.std.proofs.Common.{◌≡◌, ℕ, List, ◌++◌, Ok, Err, ap, ◌∙◌}
use Rattle.std.proofs.lemmas.List.{append_assoc}
use Rattle.std.specs.Prelude.{Result, OnOk}

pub both : {T E : Type 0} (result : Result T E) (old first last x y : List ℕ) → first ≡ old ++ x → OnOk result (last ≡ first ++ y) → OnOk result (last ≡ old ++ (x ++ y))
both (Ok done) old first last x y p q = q ∙ ap (λ l. l ++ y) p ∙ append_assoc old x y
both (Err fault) old first last x y p q = tt
