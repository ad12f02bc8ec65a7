-- A name is in the list of names if and only if a game has it.
use Rattle.std.proofs.Common.{◌≡◌, ℕ, zero, suc, ◌<◌, List, Bool, true, false, cond, Option, Some, None, IsSome, Contains, ◌↔◌, bytes_eq, codes, length, slice_index_or, refl, sym, ◌∙◌, subst, lit<, arith}
use Rattle.std.proofs.lemmas.Slice.Eq.{bytes_eq-Decides}
use Rattle.any_game.specs.AnyRules.{named}
use Rattle.any_game.specs.GameKind.{GameKind, TicTacToe, Countdown, Pig, HighHand, BlindBid, Captions}
use Rattle.any_game.specs.Names.{all_names}

-- the name at each place
at_place : (k : ℕ) (name : List ℕ) → k < length all_names → IsSome (named (slice_index_or all_names k name))
at_place zero name h = refl
at_place (suc zero) name h = refl
at_place (suc (suc zero)) name h = refl
at_place (suc (suc (suc zero))) name h = refl
at_place (suc (suc (suc (suc zero)))) name h = refl
at_place (suc (suc (suc (suc (suc zero))))) name h = refl
at_place (suc (suc (suc (suc (suc (suc k)))))) name h = absurd (omega arith)

-- the name is the one that stands at this place, or one of the rest
either : (name word : List ℕ) (k : ℕ) (kind : GameKind) (rest : Option GameKind) → k < length all_names → slice_index_or all_names k name ≡ word
    → (IsSome rest → Contains all_names name) → (b : Bool) → bytes_eq name word ≡ b → IsSome (cond b (Some kind) rest) → Contains all_names name
either name word k kind rest less is others true e h = (k, less, is ∙ sym ((bytes_eq-Decides name word).0 e))
either name word k kind rest less is others false e h = others h

among : (name : List ℕ) → IsSome (named name) → Contains all_names name
among name =
    one (codes "tic-tac-toe") 5 TicTacToe _ (lit< tt) refl (
    one (codes "countdown") 2 Countdown _ (lit< tt) refl (
    one (codes "pig") 4 Pig _ (lit< tt) refl (
    one (codes "high-hand") 3 (HighHand None) _ (lit< tt) refl (
    one (codes "blind-bid") 0 BlindBid _ (lit< tt) refl (
    one (codes "captions") 1 Captions None (lit< tt) refl (λ h. absurd (cc))
    )
    )
    )
    )
    )
  where
    one : (word : List ℕ) (k : ℕ) (kind : GameKind) (rest : Option GameKind) → k < length all_names → slice_index_or all_names k name ≡ word
        → (IsSome rest → Contains all_names name) → IsSome (cond (bytes_eq name word) (Some kind) rest) → Contains all_names name
    one word k kind rest less is others h = either name word k kind rest less is others (bytes_eq name word) refl h

known : (name : List ℕ) → Contains all_names name ↔ IsSome (named name)
known name = (λ (k, less, is). subst (λ x. IsSome (named x)) is (at_place k name less), among name)

pub are_known : (names : List (List ℕ)) → names ≡ all_names → (name : List ℕ) → Contains names name ↔ IsSome (named name)
are_known names is = subst (λ (x : List (List ℕ)). (name : List ℕ) → Contains x name ↔ IsSome (named name)) (sym is) known
