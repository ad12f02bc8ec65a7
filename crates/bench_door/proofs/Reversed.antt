-- What holds of each element of a list holds of each of its reverse.
use Rattle.std.proofs.Common.{◌<◌, ◌-◌, ℕ, List, All, length, arith, sym, subst}
use Rattle.std.specs.Prelude.{reverse}
use Rattle.std.proofs.lemmas.List.{get_or-reverse, length-reverse}

pub all_reverse : {X : Type 0} (P : X → Type 0) (xs : List X) → All P xs → All P (reverse xs)
all_reverse P xs all k d low =
    let n = length-reverse xs in
    let inside : k < length xs = omega (arith, low, n) in
    subst P (sym (get_or-reverse xs k d inside)) (all (length xs - 1 - k) d (omega (arith, inside)))
