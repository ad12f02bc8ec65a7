-- What acts make of a state, one step after the other. Lists of done acts have the latest first.
use Rattle.std.specs.Prelude.{◌≡◌, List, [], ◌∷◌, Option, Some, option_and_then}

-- the state after the acts done; none where a step has none
abbrev pub fold : {S A : Type 0} → (S → A → Option S) → S → List A → Option S
fold step first [] = Some first
fold step first (act ∷ done) = option_and_then (λ state. step state act) (fold step first done)

-- the undone acts can be done again, one after the other: the fold over them meets no none
abbrev pub GoesOn : {S A : Type 0} → (S → A → Option S) → S → List A → Type 0
GoesOn step state [] = Unit {0}
GoesOn {S} step state (act ∷ undone) = (next : S) × (step state act ≡ Some next) × GoesOn step next undone

-- the states that the acts done led on from, each of them the fold over the acts before
abbrev pub CameBy : {S A : Type 0} → (S → A → Option S) → S → List A → List S → Type 0
CameBy step first [] [] = Unit {0}
CameBy step first (act ∷ done) (before ∷ past) = (fold step first done ≡ Some before) × CameBy step first done past
CameBy step first [] (before ∷ past) = ⊥
CameBy step first (act ∷ done) [] = ⊥

-- the states that the acts undone lead to, one after the other
abbrev pub LeadsTo : {S A : Type 0} → (S → A → Option S) → S → List A → List S → Type 0
LeadsTo step now [] [] = Unit {0}
LeadsTo step now (act ∷ undone) (next ∷ ahead) = (step now act ≡ Some next) × LeadsTo step next undone ahead
LeadsTo step now [] (next ∷ ahead) = ⊥
LeadsTo step now (act ∷ undone) [] = ⊥
