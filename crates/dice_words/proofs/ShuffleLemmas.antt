-- A shuffle, one exchange at a time.
use Rattle.std.proofs.Common.{◌≡◌, ℕ, zero, suc, ◌+◌, ◌-◌, ◌<◌, Some, None, List, [], ◌∷◌, ap, ◌∙◌, sym, arith}
use Rattle.std.specs.List.{swap}
use Rattle.std.specs.Option.{option_map_or}
use Rattle.std.specs.Prelude.{length, Result, Ok, Err, OnErr}
use Rattle.dice_words.specs.Dice.{die, shuffled_from}

pub shuffled_done : (i : ℕ) (list left : List ℕ) → i ≡ 0 → shuffled_from i list left ≡ Some (list, left)
unfolding shuffled_from
shuffled_done i list left e = ap (λ k. shuffled_from k list left) e

pub shuffled_out : (i : ℕ) (list left : List ℕ) → 0 < i → left ≡ [] → shuffled_from i list left ≡ None
unfolding shuffled_from
shuffled_out zero list left more e = absurd (omega arith)
shuffled_out (suc i) list left more e = ap (shuffled_from (suc i) list) e

pub shuffled_step : (i j w : ℕ) (list left rest : List ℕ) → i ≡ suc j → left ≡ w ∷ rest → shuffled_from i list left ≡ shuffled_from j (swap list i (die (i + 1) w - 1)) rest
unfolding shuffled_from
shuffled_step i j w list left rest at first =
    ap (λ k. shuffled_from k list left) at ∙ ap (shuffled_from (suc j) list) first
    ∙ ap (λ k. shuffled_from j (swap list k (die (k + 1) w - 1)) rest) (sym at)

pub at_any : {T E P : Type 0} (r : Result T E) → P → OnErr r P
at_any (Ok x) p = tt
at_any (Err e) p = p

pub shuffled_some : (i : ℕ) (list left out rest : List ℕ) → shuffled_from i list left ≡ Some (out, rest) → length left ≡ i + length rest
unfolding shuffled_from
shuffled_some zero list left out rest e = omega (arith, ap (λ o. option_map_or (λ (p : List ℕ × List ℕ). length p.1) o 0) e)
shuffled_some (suc i) list [] out rest e = cc
shuffled_some (suc i) list (w ∷ left) out rest e = omega (arith, shuffled_some i (swap list (suc i) (die (suc i + 1) w - 1)) left out rest e)

pub shuffled_none : (i : ℕ) (list left : List ℕ) → shuffled_from i list left ≡ None → length left < i
unfolding shuffled_from
shuffled_none zero list left e = cc
shuffled_none (suc i) list [] e = omega arith
shuffled_none (suc i) list (w ∷ left) e = omega (arith, shuffled_none i (swap list (suc i) (die (suc i + 1) w - 1)) left e)
