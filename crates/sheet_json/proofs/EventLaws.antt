-- A kind of event is found by its name, and by no other.
use Rattle.std.proofs.Common.{◌≡◌, ℕ, List, [], ◌∷◌, Bool, true, false, cond, Option, Some, bytes_eq, refl, subst}
use Rattle.std.proofs.lemmas.Slice.Eq.{bytes_eq-Decides}
use Rattle.std.specs.List.{find}
use Rattle.game_sheet.specs.EventNames.{event_text, kinds, kind_from}
use Rattle.game_sheet.specs.declared.act.EventKind.{EventKind}
use Rattle.game_sheet.specs.declared.act.EventKind.TheVariants.{EndTurn, EndPhase, SetPhase, EndStage, SetStage, EndGame}

found_at : {A : Type 0} (p : A → Bool) (b : Bool) (y x : A) (rest : Option A) → p y ≡ b → (rest ≡ Some x → p x ≡ true) → cond b (Some y) rest ≡ Some x → p x ≡ true
found_at p true y x rest is later e = let same : y ≡ x = cc (e) in subst (λ z. p z ≡ true) same is
found_at p false y x rest is later e = later e

found : {A : Type 0} (p : A → Bool) (xs : List A) (x : A) → find p xs ≡ Some x → p x ≡ true
found p [] x e = absurd (cc)
found p (y ∷ xs) x e = found_at p (p y) y x (find p xs) refl (found p xs x) e

pub kind_is : (name : List ℕ) (kind : EventKind) → kind_from name ≡ Some kind → name ≡ event_text kind
kind_is name kind e = (bytes_eq-Decides name (event_text kind)).0 (found (λ k. bytes_eq name (event_text k)) kinds kind e)

pub kind_again : (kind : EventKind) → kind_from (event_text kind) ≡ Some kind
kind_again EndTurn = refl
kind_again EndPhase = refl
kind_again SetPhase = refl
kind_again EndStage = refl
kind_again SetStage = refl
kind_again EndGame = refl
