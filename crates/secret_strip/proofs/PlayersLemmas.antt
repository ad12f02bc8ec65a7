-- The entries that a viewer sees, one after another, again, and of two lists.
use Rattle.std.proofs.Common.{◌≡◌, ℕ, zero, suc, ◌+◌, ◌<◌, Bool, true, false, if◌then◌else◌, Option, Some, None, List, [], ◌∷◌, ◌++◌, length, map, take, get_or, slice_get, refl, ap, ◌∙◌, sym, arith}
use Rattle.std.proofs.lemmas.Bool.{eqb-true}
use Rattle.std.specs.List.{enumerate_from}
use Rattle.secret_strip.specs.Strip.{has_seat, seen, seen_players, strip}
use Rattle.secret_strip.specs.declared.split.Split.{Split}

pub seen_next : {P : Type 0} (viewer : Option ℕ) (n : ℕ) (xs : List (Option P)) (i : ℕ) (x : Option P) → i < length xs → x ≡ get_or xs i x → map (seen viewer) (enumerate_from n (take (suc i) xs)) ≡ map (seen viewer) (enumerate_from n (take i xs)) ++ seen viewer (n + i, x) ∷ []
seen_next viewer n [] i x within is = absurd (omega arith)
seen_next viewer n (y ∷ xs) zero x within is =
    ap (λ k. seen viewer (k, y) ∷ []) (omega arith) ∙ ap (λ z. seen viewer (n + zero, z) ∷ []) (sym is)
seen_next viewer n (y ∷ xs) (suc i) x within is =
    ap (λ zs. seen viewer (n, y) ∷ zs) (seen_next viewer (n + 1) xs i x (omega arith) is)
    ∙ ap (λ k. seen viewer (n, y) ∷ (map (seen viewer) (enumerate_from (n + 1) (take i xs)) ++ seen viewer (k, x) ∷ [])) (omega arith)

pub players_next : {P : Type 0} (viewer : Option ℕ) (xs : List (Option P)) (i : ℕ) (x : Option P) → i < length xs → x ≡ get_or xs i x → seen_players viewer (take (i + 1) xs) ≡ seen_players viewer (take i xs) ++ seen viewer (i, x) ∷ []
players_next viewer xs i x within is =
    let more : i + 1 ≡ suc i = omega arith in
    let from : 0 + i ≡ i = omega arith in
    ap (λ k. seen_players viewer (take k xs)) more ∙ seen_next viewer 0 xs i x within is
    ∙ ap (λ k. seen_players viewer (take i xs) ++ seen viewer (k, x) ∷ []) from

-- what is hidden stays hidden, and what is shown stays shown
hidden_twice : {P : Type 0} (b : Bool) (x : Option P) → (if b then (if b then x else None) else None) ≡ (if b then x else None)
hidden_twice true x = refl
hidden_twice false x = refl

pub seen_twice : {P : Type 0} (viewer : Option ℕ) (n : ℕ) (xs : List (Option P)) → map (seen viewer) (enumerate_from n (map (seen viewer) (enumerate_from n xs))) ≡ map (seen viewer) (enumerate_from n xs)
seen_twice viewer n [] = refl
seen_twice viewer n (x ∷ xs) =
    ap (λ y. y ∷ map (seen viewer) (enumerate_from (n + 1) (map (seen viewer) (enumerate_from (n + 1) xs)))) (hidden_twice (has_seat viewer n) x)
    ∙ ap (λ ys. seen viewer (n, x) ∷ ys) (seen_twice viewer (n + 1) xs)

same_if : {P : Type 0} (b : Bool) (x y : Option P) → (b ≡ true → x ≡ y) → (if b then x else None) ≡ (if b then y else None)
same_if true x y same = same refl
same_if false x y same = refl

own_seat : (viewer : Option ℕ) (n : ℕ) → has_seat viewer n ≡ true → viewer ≡ Some n
own_seat None n own = cc
own_seat (Some v) n own = ap Some (eqb-true v n own)

pub seen_same : {P : Type 0} (viewer : Option ℕ) (n : ℕ) (xs ys : List (Option P)) → length xs ≡ length ys → ((i : ℕ) → viewer ≡ Some (n + i) → slice_get xs i ≡ slice_get ys i) → map (seen viewer) (enumerate_from n xs) ≡ map (seen viewer) (enumerate_from n ys)
seen_same viewer n [] [] many same = refl
seen_same viewer n [] (y ∷ ys) many same = absurd (omega arith)
seen_same viewer n (x ∷ xs) [] many same = absurd (omega arith)
seen_same viewer n (x ∷ xs) (y ∷ ys) many same =
    ap (λ z. z ∷ map (seen viewer) (enumerate_from (n + 1) xs)) (same_if (has_seat viewer n) x y (λ own. let e = same 0 (own_seat viewer n own ∙ ap Some (omega arith)) in cc))
    ∙ ap (λ zs. seen viewer (n, y) ∷ zs) (seen_same viewer (n + 1) xs ys (omega arith) (λ i at. same (suc i) (at ∙ ap Some (omega arith))))

pub strip_twice : {C S P : Type 0} (split : Split C S P) (viewer : Option ℕ) → strip (strip split viewer) viewer ≡ strip split viewer
strip_twice {C = C} {S = S} {P = P} split viewer =
    let shown : List (Option P) → Split C S P = λ players. record { common = split.common; secret = None; players = players } in
    ap shown (seen_twice viewer 0 split.players)
