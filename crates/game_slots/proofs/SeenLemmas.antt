-- The entries that a viewer sees, one after another and again.
use Rattle.std.proofs.Common.{◌≡◌, ℕ, zero, suc, ◌+◌, ◌<◌, Bool, true, false, if◌then◌else◌, Option, Some, None, List, [], ◌∷◌, ◌++◌, length, take, get_or, refl, ap, ◌∙◌, sym, arith}
use Rattle.game_slots.specs.Slots.{SlotLists}
use Rattle.game_slots.specs.Tables.{has_seat, seen, seen_from, strip}
use Rattle.game_slots.specs.declared.table.Table.{Table}

seen_more : (viewer : Option ℕ) (n : ℕ) (xs : List (Option SlotLists)) (i : ℕ) (x : Option SlotLists) → i < length xs → x ≡ get_or xs i x → seen_from viewer n (take (suc i) xs) ≡ seen_from viewer n (take i xs) ++ seen viewer (n + i) x ∷ []
seen_more viewer n [] i x within is = absurd (omega arith)
seen_more viewer n (y ∷ xs) zero x within is =
    ap (λ k. seen viewer k y ∷ []) (omega arith) ∙ ap (λ z. seen viewer (n + zero) z ∷ []) (sym is)
seen_more viewer n (y ∷ xs) (suc i) x within is =
    ap (λ zs. seen viewer n y ∷ zs) (seen_more viewer (n + 1) xs i x (omega arith) is)
    ∙ ap (λ k. seen viewer n y ∷ (seen_from viewer (n + 1) (take i xs) ++ seen viewer k x ∷ [])) (omega arith)

-- the entries before one more
pub seen_next : (viewer : Option ℕ) (xs : List (Option SlotLists)) (i : ℕ) (x : Option SlotLists) → i < length xs → x ≡ get_or xs i x → seen_from viewer 0 (take (i + 1) xs) ≡ seen_from viewer 0 (take i xs) ++ seen viewer i x ∷ []
seen_next viewer xs i x within is =
    let more : i + 1 ≡ suc i = omega arith in
    let from : 0 + i ≡ i = omega arith in
    ap (λ k. seen_from viewer 0 (take k xs)) more ∙ seen_more viewer 0 xs i x within is
    ∙ ap (λ k. seen_from viewer 0 (take i xs) ++ seen viewer k x ∷ []) from

hidden_twice : (b : Bool) (x : Option SlotLists) → (if b then (if b then x else None) else None) ≡ (if b then x else None)
hidden_twice true x = refl
hidden_twice false x = refl

seen_twice : (viewer : Option ℕ) (n : ℕ) (xs : List (Option SlotLists)) → seen_from viewer n (seen_from viewer n xs) ≡ seen_from viewer n xs
seen_twice viewer n [] = refl
seen_twice viewer n (x ∷ xs) =
    ap (λ y. y ∷ seen_from viewer (n + 1) (seen_from viewer (n + 1) xs)) (hidden_twice (has_seat viewer n) x)
    ∙ ap (λ ys. seen viewer n x ∷ ys) (seen_twice viewer (n + 1) xs)

-- a view of a view is the view
pub strip_twice : (table : Table) (viewer : Option ℕ) → strip (strip table viewer) viewer ≡ strip table viewer
strip_twice table viewer =
    let shown : List (Option SlotLists) → Table = λ players. record { common = table.common; players = players; secret = None } in
    ap shown (seen_twice viewer 0 table.players)
