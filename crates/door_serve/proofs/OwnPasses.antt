-- The keeper's passes, and the watch's: how they are taken from those of all, and put back.
use Rattle.std.proofs.Common.{suc, zero, ◌≡◌, ◌<◌, ◌+◌, ℕ, List, [], ◌∷◌, ◌++◌, map, length, refl, sym, ap, ◌∙◌, arith, slice_index_or, length-append}
use Rattle.std.specs.Prelude.{All}
use Rattle.std.proofs.lemmas.List.{append_assoc, get_or-map, length-map, map-append}
use Rattle.room_desk.specs.History.{SetUp}
use Rattle.session_pool.specs.Passes.{Belong, Pass, number_of, unseen}
use Rattle.session_pool.specs.Rooms.{row_of, rows_from}
use Rattle.session_pool.proofs.Places.{all_more}
use Rattle.door_serve.specs.Rooms.{desks_of}
use Rattle.door_serve.proofs.Gathering.{all_last, as_many_back, handed_back, last_of}

-- the desk of a pass at a place
pub desk_at : (desks : List SetUp) (passes : List Pass) → desks_of passes ≡ map (λ d. d.desk) desks → (i : ℕ) (p : Pass) (d : SetUp) → i < length desks
    → (slice_index_or passes i p).desk ≡ (slice_index_or desks i d).desk
desk_at desks passes e i p d low =
    let l = ap length e in let m = length-map passes (λ (q : Pass). q.desk) in let n = length-map desks (λ (x : SetUp). x.desk) in
    sym (get_or-map (λ (q : Pass). q.desk) passes i p d.desk (omega (arith, low, l, m, n)))
    ∙ (ap (λ ds. slice_index_or ds i d.desk) e ∙ get_or-map (λ (x : SetUp). x.desk) desks i d d.desk low)

-- rows end with that of the last number
rows_last : (desks : List SetUp) (k n : ℕ) → rows_from desks k (suc n) ≡ rows_from desks k n ++ row_of desks (k + n) ∷ []
rows_last desks k zero = let e : k ≡ k + 0 = omega arith in ap (λ m. row_of desks m ∷ []) e
rows_last desks k (suc n) =
    let e : k + 1 + n ≡ k + suc n = omega arith in
    ap (λ l. row_of desks k ∷ l) (rows_last desks (k + 1) n) ∙ ap (λ m. row_of desks k ∷ (rows_from desks (k + 1) n ++ row_of desks m ∷ [])) e

-- rows without the last, and the last
pub split_rows : {Row : Type 0} (items : Row → List Pass) (desks : List SetUp) (rows left : List Row) (own : Row) (n m : ℕ) → m ≡ n + 1 → rows ≡ left ++ own ∷ []
    → map (λ v. map unseen (items v)) rows ≡ rows_from desks 0 m → (map (λ v. map unseen (items v)) left ≡ rows_from desks 0 n) × Belong desks n (items own)
split_rows {Row = Row} items desks rows left own n m e pop is =
    let f : Row → List Pass = λ v. map unseen (items v) in
    let up : m ≡ suc n = omega (arith, e) in
    let same : 0 + n ≡ n = omega arith in
    last_of (map f left) (rows_from desks 0 n) (f own) (row_of desks n)
    (sym (map-append f left (own ∷ [])) ∙ (sym (ap (map f) pop) ∙ (is ∙ (ap (rows_from desks 0) up
    ∙ (rows_last desks 0 n ∙ ap (λ k. rows_from desks 0 n ++ row_of desks k ∷ []) same)))))

-- rows without the last two, and these
pub split_two : {Row : Type 0} (items : Row → List Pass) (desks : List SetUp) (rows more left : List Row) (own watch : Row) (n m : ℕ) → m ≡ n + 2 → rows ≡ more ++ watch ∷ [] → more ≡ left ++ own ∷ []
    → map (λ v. map unseen (items v)) rows ≡ rows_from desks 0 m
    → (map (λ v. map unseen (items v)) left ≡ rows_from desks 0 n) × Belong desks n (items own) × Belong desks (n + 1) (items watch)
split_two items desks rows more left own watch n m e pop pop_own is =
    let first = split_rows items desks rows more watch (n + 1) m (omega (arith, e)) pop is in
    let second = split_rows items desks more left own n (n + 1) refl pop_own first.0 in
    (second.0, second.1, first.1)

-- all rows, once the keeper's and the watch's are put back
module _ {Row : Type 0} (items : Row → List Pass) (rows back all : List Row) (own watch : Row) (put : all ≡ back ++ own ∷ watch ∷ [])
    (same : map (λ v. map unseen (items v)) back ≡ map (λ v. map unseen (items v)) rows) where
  pub as_many_put_back : length all ≡ length rows + 2
  as_many_put_back = let l = ap length put in let m = length-append back (own ∷ watch ∷ []) in let b = as_many_back items rows back same in omega (arith, l, m, b)

  pub all_put_back : (desks : List SetUp) → All (λ v. Belong desks (number_of (items v)) (items v)) rows → desks_of (items own) ≡ map (λ d. d.desk) desks
      → desks_of (items watch) ≡ map (λ d. d.desk) desks → All (λ v. desks_of (items v) ≡ map (λ d. d.desk) desks) all
  all_put_back desks belong here there =
      let first = all_more (λ v. desks_of (items v) ≡ map (λ d. d.desk) desks) back (back ++ own ∷ []) own refl (handed_back items desks rows back same belong) here in
      all_more (λ v. desks_of (items v) ≡ map (λ d. d.desk) desks) (back ++ own ∷ []) all watch (put ∙ sym (append_assoc back (own ∷ []) (watch ∷ []))) first there

-- what holds of all rows holds of the watch's, which is the last
pub of_watch : {Row : Type 0} (P : Row → Type 0) (back all : List Row) (own watch : Row) → all ≡ back ++ own ∷ watch ∷ [] → All P all → P watch
of_watch P back all own watch put holds = (all_last P all (back ++ own ∷ []) watch (put ∙ sym (append_assoc back (own ∷ []) (watch ∷ []))) holds).1
