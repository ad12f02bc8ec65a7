-- Rows of passes, one pass for each desk, from which the last is taken, one row after another; and what is then gathered for that desk.
use Rattle.std.proofs.Common.{suc, zero, subst, ◌≡◌, ◌<◌, ◌≤◌, ◌+◌, ◌≢◌, ℕ, List, [], ◌∷◌, ◌++◌, map, length, refl, sym, ap, ◌∙◌, arith, slice_index_or, slice_set, length-append}
use Rattle.std.specs.Prelude.{All, replicate}
use Rattle.std.proofs.lemmas.List.{get_or-set_same, get_or-set_other, get_or-replicate, get_or-map, length-map, length-replicate, length-set, map-append, replicate_more}
use mathlib.Core.Logic.{dite}
use native.Mathlib.Decide.{ℕ_discrete}
use Rattle.room_desk.specs.History.{DeskId, Held, SetUp, dealt, held}
use Rattle.room_object.specs.Entry.{Entry}
use Rattle.session_pool.specs.Passes.{Belong, Pass, number_of, unseen}
use Rattle.session_pool.proofs.Watching.{own_desks}
use Rattle.door_serve.specs.Rooms.{desks_of}

abbrev tail_of : {X : Type 0} → List X → List X
tail_of [] = []
tail_of (x ∷ xs) = xs

-- lists that end alike in one more each are alike before
pub last_of : {X : Type 0} (xs ys : List X) (x y : X) → xs ++ x ∷ [] ≡ ys ++ y ∷ [] → (xs ≡ ys) × (x ≡ y)
last_of [] [] x y e = (refl, ap (λ l. slice_index_or l 0 x) e)
last_of [] (b ∷ bs) x y e = let l = ap length e in let m = length-append bs (y ∷ []) in absurd (omega arith)
last_of (a ∷ more) [] x y e = let l = ap length e in let m = length-append more (x ∷ []) in absurd (omega arith)
last_of (a ∷ more) (b ∷ bs) x y e =
    let t = last_of more bs x y (ap tail_of e) in
    (ap (λ z. z ∷ more) (ap (λ l. slice_index_or l 0 a) e) ∙ ap (λ z. b ∷ z) t.0, t.1)

pub desks_more : (passes : List Pass) (p : Pass) → desks_of (passes ++ p ∷ []) ≡ desks_of passes ++ p.desk ∷ []
desks_more passes p = map-append (λ (q : Pass). q.desk) passes (p ∷ [])

-- the last of a row's passes is the last desk's, and the others are those of the other desks
pub row_end : (row left : List Pass) (p : Pass) (ds : List DeskId) (d : DeskId) → row ≡ left ++ p ∷ [] → desks_of row ≡ ds ++ d ∷ [] → (desks_of left ≡ ds) × (p.desk ≡ d)
row_end row left p ds d e is = last_of (desks_of left) ds p.desk d (sym (desks_more left p) ∙ (sym (ap desks_of e) ∙ is))

-- a row that has a pass for one more desk isn't empty
pub row_has : (row : List Pass) (ds : List DeskId) (d : DeskId) → desks_of row ≡ ds ++ d ∷ [] → 0 < length row
row_has row ds d is =
    let l = ap length is in let m = length-map row (λ (q : Pass). q.desk) in let n = length-append ds (d ∷ []) in omega (arith, l, m, n)

module _ {Row : Type 0} (items : Row → List Pass) (ds : List DeskId) (d : DeskId) where
  -- rows that have lost their last pass before a place, and have it from there on
  pub record Halfway (rows : List Row) (place : ℕ) : Type 0 where
    pub before : (k : ℕ) (v : Row) → k < place → desks_of (items (slice_index_or rows k v)) ≡ ds
    pub behind : (k : ℕ) (v : Row) → place ≤ k → k < length rows → desks_of (items (slice_index_or rows k v)) ≡ ds ++ d ∷ []

  pub begin : (rows : List Row) → All (λ v. desks_of (items v) ≡ ds ++ d ∷ []) rows → Halfway rows 0
  begin rows all = record { before = λ k v low. absurd (omega arith); behind = λ k v _ low. all k v low }

  pub end : (rows : List Row) (place : ℕ) → length rows ≤ place → Halfway rows place → All (λ v. desks_of (items v) ≡ ds) rows
  end rows place over h k v low = h.before k v (omega (arith, over, low))

  pub onward : (rows : List Row) (place up : ℕ) (v w : Row) (p : Pass) → up ≡ place + 1 → place < length rows → items (slice_index_or rows place v) ≡ items w ++ p ∷ []
      → Halfway rows place → Halfway (slice_set rows place w) up × (p.desk ≡ d)
  onward rows place up v w p e within pop h =
      let t = row_end (items (slice_index_or rows place v)) (items w) p ds d pop (h.behind place v (omega arith) within) in (
        record {
          before = λ k u low. dite (ℕ_discrete k place)
              (λ same. ap (λ i. desks_of (items (slice_index_or (slice_set rows place w) i u))) same
              ∙ (ap (λ x. desks_of (items x)) (get_or-set_same rows place w u within) ∙ t.0))
              (λ other. ap (λ x. desks_of (items x)) (get_or-set_other rows place k w u other) ∙ h.before k u (omega (arith, low, e, other)));
          behind = λ k u high low.
              let n = length-set rows place w in
              let other : k ≢ place = omega (arith, high, e) in
              ap (λ x. desks_of (items x)) (get_or-set_other rows place k w u other) ∙ h.behind k u (omega (arith, high, e)) (omega (arith, low, n));
        },
        t.1,
      )

-- one more pass of a desk
pub gathered_more : (passes after : List Pass) (p : Pass) (n up : ℕ) (d : DeskId) → up ≡ n + 1 → after ≡ passes ++ p ∷ [] → p.desk ≡ d → desks_of passes ≡ replicate n d → desks_of after ≡ replicate up d
gathered_more passes after p n up d e push own is =
    ap desks_of push ∙ (desks_more passes p ∙ (ap (λ l. l ++ p.desk ∷ []) is ∙ (ap (λ x. replicate n d ++ x ∷ []) own
    ∙ (replicate_more n d ∙ ap (λ k. replicate k d) (sym e)))))

-- all of them are that desk's
pub all_own : (passes : List Pass) (n : ℕ) (d : DeskId) → desks_of passes ≡ replicate n d → All (λ p. p.desk ≡ d) passes
all_own passes n d is k p low =
    let l = ap length is in let m = length-map passes (λ (q : Pass). q.desk) in let r = length-replicate n d in
    sym (get_or-map (λ (q : Pass). q.desk) passes k p d low) ∙ (ap (λ ds. slice_index_or ds k d) is ∙ get_or-replicate n k d d (omega (arith, low, l, m, r)))

pub as_many : (passes : List Pass) (n : ℕ) (d : DeskId) → desks_of passes ≡ replicate n d → length passes ≡ n
as_many passes n d is =
    let l = ap length is in let m = length-map passes (λ (q : Pass). q.desk) in let r = length-replicate n d in omega (arith, l, m, r)

-- passes that were handed back are their desks' still
pub handed_back : {Row : Type 0} (items : Row → List Pass) (desks : List SetUp) (rows back : List Row) → map (λ v. map unseen (items v)) back ≡ map (λ v. map unseen (items v)) rows
    → All (λ v. Belong desks (number_of (items v)) (items v)) rows → All (λ v. desks_of (items v) ≡ map (λ d. d.desk) desks) back
handed_back {Row = Row} items desks rows back e own k v low =
    let f : Row → List Pass = λ u. map unseen (items u) in
    let l = ap length e in let m = length-map back f in let n = length-map rows f in
    let within : k < length rows = omega (arith, low, l, m, n) in
    let same : map unseen (items (slice_index_or back k v)) ≡ map unseen (items (slice_index_or rows k v)) =
    sym (get_or-map f back k v (f v) low) ∙ (ap (λ xs. slice_index_or xs k (f v)) e ∙ get_or-map f rows k v (f v) within) in
    own_desks desks (number_of (items (slice_index_or rows k v))) (items (slice_index_or back k v)) (same ∙ own k v within)

all_front : {X : Type 0} (P : X → Type 0) (ys : List X) (x : X) → All P (ys ++ x ∷ []) → All P ys × P x
all_front P [] x all = (λ k d low. absurd (omega arith), all 0 x (omega arith))
all_front P (y ∷ ys) x all =
    let more = all_front P ys x (λ k d low. all (suc k) d (omega (arith, low))) in
    (both (all 0 y (omega arith)) more.0, more.1)
  where
    both : P y → All P ys → All P (y ∷ ys)
    both here rest zero d low = here
    both here rest (suc k) d low = rest k d (omega (arith, low))

-- what holds of all holds of those before the last, and of the last
pub all_last : {X : Type 0} (P : X → Type 0) (xs ys : List X) (x : X) → xs ≡ ys ++ x ∷ [] → All P xs → All P ys × P x
all_last P xs ys x e all = all_front P ys x (subst (All P) e all)

-- rows of passes to all desks, by their last desk
pub rows_end : {Row : Type 0} (items : Row → List Pass) (desks left : List SetUp) (d : SetUp) (rows : List Row) → desks ≡ left ++ d ∷ [] → All (λ r. desks_of (items r) ≡ map (λ e. e.desk) desks) rows
    → All (λ r. desks_of (items r) ≡ map (λ e. e.desk) left ++ d.desk ∷ []) rows
rows_end items desks left d rows e all k r low = all k r low ∙ (ap (λ ds. map (λ (e : SetUp). e.desk) ds) e ∙ map-append (λ (e : SetUp). e.desk) left (d ∷ []))

all_dealt : (C : Type 0) (past : List (Entry C)) (desk : DeskId) (n : ℕ) → length (dealt past desk n) ≡ n
all_dealt C past desk zero = refl
all_dealt C past desk (suc n) = let l = length-append (dealt past desk n) (held desk n past past ∷ []) in let m = all_dealt C past desk n in omega (arith, l, m)

-- a desk deals as many passes as it was set up with
pub as_many_dealt : {C : Type 0} (passes : List (Held C)) (past : List (Entry C)) (desk : DeskId) (n : ℕ) → passes ≡ dealt past desk n → length passes ≡ n
as_many_dealt {C} passes past desk n e = ap length e ∙ all_dealt C past desk n

-- as many rows are handed back
pub as_many_back : {V : Type 0} (items : V → List Pass) (before after : List V) → map (λ v. map unseen (items v)) after ≡ map (λ v. map unseen (items v)) before → length after ≡ length before
as_many_back items before after e =
    let l = ap length e in let m = length-map after (λ v. map unseen (items v)) in let n = length-map before (λ v. map unseen (items v)) in omega (arith, l, m, n)
