-- Lists whose first part has been gone through.
use Rattle.std.proofs.Common.{◌≡◌, ◌<◌, ◌≤◌, ◌+◌, ℕ, List, [], ◌∷◌, ◌++◌, map, length, ap, sym, ◌∙◌, arith, refl, subst, is_some, length-append, slice_index_or, slice_set}
use Rattle.std.specs.Prelude.{suc, zero, take, drop, All, None, false}
use Rattle.std.proofs.lemmas.List.{get_or-map, map-append, map-set, length-map}
use Rattle.any_game.specs.AnyRules.{any_rules}
use Rattle.any_game.specs.declared.any_g.AnyG.{AnyG}
use Rattle.hosted_room.specs.Calls.{NobodyIn}
use Rattle.match_master.specs.Held.{Held as Book, StandsFor}
use Rattle.room_desk.specs.History.{DeskId, SetUp, dealt, held}
use Rattle.any_game.specs.GameKind.{GameKind}
use Rattle.room_history.specs.declared.call.RoomCall.{RoomCall}
use Rattle.room_object.specs.Entry.{Entry}
use Rattle.session_pool.specs.Passes.{Belong, Pass, dealt_by, number_of, unseen}
use Rattle.session_pool.specs.Placed.{AttachedBy, is_in}
use Rattle.session_pool.specs.Rooms.{dealt_to, row_of, rows_from, numbers}
use Rattle.session_pool.proofs.Places.{all_but_last, all_more, all_of_map}

module _ {D X : Type 0} where
  at_front : (f g : D → X) (ds : List D) (i : ℕ) (d : D) (x : X) → i < length ds → slice_index_or (map f (take i ds) ++ map g (drop i ds)) i x ≡ g (slice_index_or ds i d)
  at_front f g [] i d x low = absurd (omega arith)
  at_front f g (e ∷ ds) zero d x low = refl
  at_front f g (e ∷ ds) (suc i) d x low = at_front f g ds i d x (omega arith)

  set_front : (f g : D → X) (ds : List D) (i : ℕ) (d : D) → i < length ds
      → slice_set (map f (take i ds) ++ map g (drop i ds)) i (f (slice_index_or ds i d)) ≡ map f (take (suc i) ds) ++ map g (drop (suc i) ds)
  set_front f g [] i d low = absurd (omega arith)
  set_front f g (e ∷ ds) zero d low = refl
  set_front f g (e ∷ ds) (suc i) d low = ap (λ t. f e ∷ t) (set_front f g ds i d (omega arith))

  row_front : (f : D → X) (ds : List D) (i : ℕ) (d : D) → i < length ds → map f (take (suc i) ds) ≡ map f (take i ds) ++ f (slice_index_or ds i d) ∷ []
  row_front f [] i d low = absurd (omega arith)
  row_front f (e ∷ ds) zero d low = refl
  row_front f (e ∷ ds) (suc i) d low = ap (λ t. f e ∷ t) (row_front f ds i d (omega arith))

dealt_suc : (d : SetUp) (n m : ℕ) → m ≡ suc n → dealt {C = RoomCall GameKind} [] d.desk m ≡ dealt [] d.desk n ++ held d.desk n [] [] ∷ []
dealt_suc d n m e = ap (λ k. dealt {C = RoomCall GameKind} [] d.desk k) e

pub dealt_next : (d : SetUp) (n m : ℕ) → m ≡ n + 1 → dealt {C = RoomCall GameKind} [] d.desk m ≡ dealt [] d.desk n ++ held d.desk n [] [] ∷ []
dealt_next d n m e = let up : m ≡ suc n = omega (arith, e) in dealt_suc d n m up

abbrev tail_of : {X : Type 0} → List X → List X
tail_of [] = []
tail_of (x ∷ xs) = xs

snoc_both : {X : Type 0} (xs ys : List X) (x y : X) → xs ++ x ∷ [] ≡ ys ++ y ∷ [] → (xs ≡ ys) × (x ≡ y)
snoc_both [] [] x y e = (refl, ap (λ l. slice_index_or l 0 x) e)
snoc_both [] (b ∷ bs) x y e = let l = ap length e in let m = length-append bs (y ∷ []) in absurd (omega arith)
snoc_both (a ∷ as_) [] x y e = let l = ap length e in let m = length-append as_ (x ∷ []) in absurd (omega arith)
snoc_both (a ∷ as_) (b ∷ bs) x y e =
    let t = snoc_both as_ bs x y (ap tail_of e) in
    (ap (λ z. z ∷ as_) (ap (λ l. slice_index_or l 0 a) e) ∙ ap (λ z. b ∷ z) t.0, t.1)

-- the last pass of a room that is still to come, and the passes left of it
pub room_at : {V : Type 0} (items : V → List Pass) (desks : List SetUp) (rooms : List V) (n m i : ℕ) (d : SetUp) (v : V) (left : List Pass) (p : Pass) → m ≡ n + 1 → i < length desks → length rooms ≡ length desks
    → map items rooms ≡ dealt_to (take i desks) n ++ dealt_to (drop i desks) m → items (slice_index_or rooms i v) ≡ left ++ p ∷ []
    → (left ≡ dealt [] (slice_index_or desks i d).desk n) × (p ≡ held (slice_index_or desks i d).desk n [] [])
room_at items desks rooms n m i d v left p e low many is last =
    snoc_both left (dealt [] (slice_index_or desks i d).desk n) p (held (slice_index_or desks i d).desk n [] [])
    (sym last ∙ (sym (get_or-map items rooms i v (items v) (omega arith)) ∙ (ap (λ xs. slice_index_or xs i (items v)) is
    ∙ (at_front (λ (d : SetUp). dealt [] d.desk n) (λ (d : SetUp). dealt [] d.desk m) desks i d (items v) low ∙ dealt_next (slice_index_or desks i d) n m e))))

-- a room that is still to come has a pass
pub room_has : {V : Type 0} (items : V → List Pass) (desks : List SetUp) (rooms : List V) (n m i : ℕ) (d : SetUp) (v : V) → m ≡ n + 1 → i < length desks → length rooms ≡ length desks
    → map items rooms ≡ dealt_to (take i desks) n ++ dealt_to (drop i desks) m → 0 < length (items (slice_index_or rooms i v))
room_has items desks rooms n m i d v e low many is =
    let l = ap length (sym (get_or-map items rooms i v (items v) (omega arith)) ∙ (ap (λ xs. slice_index_or xs i (items v)) is
    ∙ (at_front (λ (d : SetUp). dealt [] d.desk n) (λ (d : SetUp). dealt [] d.desk m) desks i d (items v) low ∙ dealt_next (slice_index_or desks i d) n m e))) in
    let k = length-append (dealt {C = RoomCall GameKind} [] (slice_index_or desks i d).desk n) (held (slice_index_or desks i d).desk n [] [] ∷ []) in
    omega (arith, l, k)

pub rooms_next : {V : Type 0} (items : V → List Pass) (desks : List SetUp) (rooms : List V) (n m i j : ℕ) (d : SetUp) (w : V) → j ≡ i + 1 → i < length desks
    → map items rooms ≡ dealt_to (take i desks) n ++ dealt_to (drop i desks) m → items w ≡ dealt [] (slice_index_or desks i d).desk n
    → map items (slice_set rooms i w) ≡ dealt_to (take j desks) n ++ dealt_to (drop j desks) m
rooms_next items desks rooms n m i j d w e low is here =
    let f : SetUp → List Pass = λ d. dealt [] d.desk n in
    let g : SetUp → List Pass = λ d. dealt [] d.desk m in
    let up : suc i ≡ j = omega (arith, e) in
    map-set items rooms i w ∙ (ap (λ z. slice_set z i (items w)) is ∙ (ap (λ z. slice_set (map f (take i desks) ++ map g (drop i desks)) i z) here
    ∙ (set_front f g desks i d low ∙ ap (λ k. map f (take k desks) ++ map g (drop k desks)) up)))

pub row_next : (desks : List SetUp) (n i j : ℕ) (d : SetUp) (row row' : List Pass) (p : Pass) → j ≡ i + 1 → i < length desks → row ≡ row_of (take i desks) n → row' ≡ row ++ p ∷ []
    → p ≡ held (slice_index_or desks i d).desk n [] [] → row' ≡ row_of (take j desks) n
row_next desks n i j d row row' p e low is push here =
    let up : suc i ≡ j = omega (arith, e) in
    push ∙ (ap (λ r. r ++ p ∷ []) is ∙ (ap (λ q. row_of (take i desks) n ++ q ∷ []) here
    ∙ (sym (row_front (dealt_by n) desks i d low) ∙ ap (λ k. row_of (take k desks) n) up)))

pub none_dealt : {V : Type 0} (items : V → List Pass) (rooms : List V) (desks : List SetUp) (n : ℕ) → rooms ≡ [] → desks ≡ [] → map items rooms ≡ dealt_to desks n
none_dealt items rooms desks n e f = ap (map items) e ∙ ap (λ ds. dealt_to ds n) (sym f)

-- one more room, and its passes
pub dealt_more : {V : Type 0} (items : V → List Pass) (rooms after : List V) (desks later : List SetUp) (n : ℕ) (v : V) (d : SetUp) → after ≡ rooms ++ v ∷ [] → later ≡ desks ++ d ∷ []
    → items v ≡ dealt [] d.desk n → map items rooms ≡ dealt_to desks n → map items after ≡ dealt_to later n
dealt_more items rooms after desks later n v d push more here is =
    ap (map items) push
    ∙ (map-append items rooms (v ∷ [])
    ∙ (ap (λ l. l ++ items v ∷ []) is
    ∙ (ap (λ p. dealt_to desks n ++ p ∷ []) here
    ∙ (sym (map-append (λ (d : SetUp). dealt {C = RoomCall GameKind} [] d.desk n) desks (d ∷ [])) ∙ ap (λ l. dealt_to l n) (sym more)))))

-- a pass that is taken from a list, and one that is put at its end, what they have seen aside
pub unseen_last : (passes left : List Pass) (p : Pass) → passes ≡ left ++ p ∷ [] → map unseen passes ≡ map unseen left ++ unseen p ∷ []
unseen_last passes left p e = ap (map unseen) e ∙ map-append unseen left (p ∷ [])

pub as_many_rooms : {V : Type 0} (items : V → List Pass) (desks : List SetUp) (rooms : List V) (n : ℕ) → map items rooms ≡ dealt_to desks n → length rooms ≡ length desks
as_many_rooms items desks rooms n is =
    let l = ap length is in let a = length-map rooms items in let b = length-map desks (λ (d : SetUp). dealt {C = RoomCall GameKind} [] d.desk n) in omega (arith, l, a, b)

pub has_some : {V : Type 0} (items : V → List Pass) (desks : List SetUp) (rooms : List V) (n m i : ℕ) (v : V) → m ≡ n + 1 → i < length desks → length rooms ≡ length desks
    → map items rooms ≡ dealt_to (take i desks) n ++ dealt_to (drop i desks) m → 0 < length (items (slice_index_or rooms i v))
has_some items [] rooms n m i v e low many is = absurd (omega arith)
has_some items (d ∷ ds) rooms n m i v e low many is = room_has items (d ∷ ds) rooms n m i d v e low many is

pub step : {V : Type 0} (items : V → List Pass) (desks : List SetUp) (rooms : List V) (n m i j : ℕ) (v w : V) (p : Pass) (row row' : List Pass) → m ≡ n + 1 → j ≡ i + 1 → i < length desks → length rooms ≡ length desks
    → map items rooms ≡ dealt_to (take i desks) n ++ dealt_to (drop i desks) m → items (slice_index_or rooms i v) ≡ items w ++ p ∷ [] → row ≡ row_of (take i desks) n → row' ≡ row ++ p ∷ []
    → (map items (slice_set rooms i w) ≡ dealt_to (take j desks) n ++ dealt_to (drop j desks) m) × (row' ≡ row_of (take j desks) n)
step items [] rooms n m i j v w p row row' e f low many is last was push = absurd (omega arith)
step items (d ∷ ds) rooms n m i j v w p row row' e f low many is last was push =
    let at = room_at items (d ∷ ds) rooms n m i d v (items w) p e low many is last in
    (rooms_next items (d ∷ ds) rooms n m i j d w f low is at.0, row_next (d ∷ ds) n i j d row row' p f low was push at.1)

-- ---- what passes have seen aside

-- the passes of a new desk are those of one whose passes have seen nothing
pub unseen_dealt : (past : List (Entry (RoomCall GameKind))) (desk : DeskId) (n : ℕ) → map unseen (dealt past desk n) ≡ dealt [] desk n
unseen_dealt past desk zero = refl
unseen_dealt past desk (suc n) = map-append unseen (dealt past desk n) (held desk n past past ∷ []) ∙ ap (λ l. l ++ held desk n [] [] ∷ []) (unseen_dealt past desk n)

number_seen : (passes : List Pass) → number_of (map unseen passes) ≡ number_of passes
number_seen [] = refl
number_seen (p ∷ passes) = refl

row_is : (desks : List SetUp) (k : ℕ) → row_of desks k ≡ map (dealt_by (number_of (row_of desks k))) desks
row_is [] k = refl
row_is (d ∷ ds) k = refl

belongs_as : (desks : List SetUp) (passes : List Pass) → map unseen passes ≡ map (dealt_by (number_of (map unseen passes))) desks → Belong desks (number_of passes) passes
belongs_as desks passes e = subst (λ n. map unseen passes ≡ map (dealt_by n) desks) (number_seen passes) e

all_cons : {X : Type 0} (P : X → Type 0) (x : X) (xs : List X) → P x → All P xs → All P (x ∷ xs)
all_cons P x xs here rest zero d low = here
all_cons P x xs here rest (suc k) d low = rest k d (omega arith)

rows_are : (desks : List SetUp) (k n : ℕ) → All (λ p. p ≡ map (dealt_by (number_of p)) desks) (rows_from desks k n)
rows_are desks k zero = λ i d low. absurd (omega arith)
rows_are desks k (suc n) = all_cons (λ p. p ≡ map (dealt_by (number_of p)) desks) (row_of desks k) (rows_from desks (k + 1) n) (row_is desks k) (rows_are desks (k + 1) n)

row_number : (desks : List SetUp) (k : ℕ) → 0 < length desks → number_of (row_of desks k) ≡ k
row_number [] k some = absurd (omega arith)
row_number (d ∷ ds) k some = refl

-- the numbers of rows end before the next one
pub rows_within : (desks : List SetUp) (k n m : ℕ) → m ≡ k + n → 0 < length desks → All (λ p. number_of p < m) (rows_from desks k n)
rows_within desks k zero m e some = λ i d low. absurd (omega arith)
rows_within desks k (suc n) m e some =
    all_cons (λ p. number_of p < m) (row_of desks k) (rows_from desks (k + 1) n) (let here = row_number desks k some in omega (arith, here, e)) (rows_within desks (k + 1) n m (omega (arith, e)) some)

module _ {V : Type 0} (items : V → List Pass) (desks : List SetUp) (rows : List V) (k n : ℕ) (is : map (λ v. map unseen (items v)) rows ≡ rows_from desks k n) where
  pub rows_belong : All (λ v. Belong desks (number_of (items v)) (items v)) rows
  rows_belong i d low =
      belongs_as desks (items (slice_index_or rows i d)) (all_of_map (λ p. p ≡ map (dealt_by (number_of p)) desks) (λ v. map unseen (items v)) rows (rows_from desks k n) is (rows_are desks k n) i d low)

  pub rows_numbered : (m : ℕ) → m ≡ k + n → 0 < length desks → All (λ v. number_of (items v) < m) rows
  rows_numbered m e some i d low =
      subst (λ number. number < m) (number_seen (items (slice_index_or rows i d)))
      (all_of_map (λ p. number_of p < m) (λ v. map unseen (items v)) rows (rows_from desks k n) is (rows_within desks k n m e some) i d low)

-- ---- passes that are attached nowhere

-- none of a new desk is, where none was after the calls that they have seen
pub dealt_free : (past : List (Entry (RoomCall GameKind))) (desk : DeskId) (n m : ℕ) → n ≤ m → NobodyIn any_rules m desk.object past → AttachedBy (dealt past desk n) None
dealt_free past desk zero m few nobody = λ i d low. absurd (omega arith)
dealt_free past desk (suc n) m few nobody =
    all_more (λ (p : Pass). is_in p ≡ false) (dealt past desk n) (dealt past desk (suc n)) (held desk n past past) refl (dealt_free past desk n m (omega (arith, few)) nobody) (nobody n (omega (arith, few)))

-- nor is any of a book in which nothing has happened
pub nobody_in_book : (b : Book GameKind AnyG) → StandsFor any_rules b [] → (places : ℕ) (past : List (Entry (RoomCall GameKind))) → StandsFor any_rules b past → NobodyIn any_rules places b.room past
nobody_in_book b s places past t pass low = ap is_some (sym (t.sessions_held pass) ∙ s.sessions_held pass)

pub all_set : {X : Type 0} (P : X → Type 0) (xs : List X) (i : ℕ) (x : X) → All P xs → P x → All P (slice_set xs i x)
all_set P [] i x all here = all
all_set P (y ∷ ys) zero x all here = all_cons P x ys here (λ k d low. all (suc k) d (omega (arith, low)))
all_set P (y ∷ ys) (suc i) x all here = all_cons P y (slice_set ys i x) (all 0 y (omega arith)) (all_set P ys i x (λ k d low. all (suc k) d (omega (arith, low))) here)

-- one more pass is taken from a room
pub taken_free : {V : Type 0} (items : V → List Pass) (rooms : List V) (i : ℕ) (v left : V) (p : Pass) (row row' : List Pass) → i < length rooms → All (λ v. AttachedBy (items v) None) rooms → AttachedBy row None
    → items (slice_index_or rooms i v) ≡ items left ++ p ∷ [] → row' ≡ row ++ p ∷ [] → All (λ v. AttachedBy (items v) None) (slice_set rooms i left) × AttachedBy row' None
taken_free items rooms i v left p row row' low free row_free last push =
    let here = all_but_last (λ (p : Pass). is_in p ≡ false) (items (slice_index_or rooms i v)) (items left) p last (free i v low) in
    (all_set (λ v. AttachedBy (items v) None) rooms i left free here.1, all_more (λ (p : Pass). is_in p ≡ false) row row' p push row_free here.0)

pub as_many_rows : (desks : List SetUp) (k n : ℕ) → length (rows_from desks k n) ≡ n
as_many_rows desks k zero = refl
as_many_rows desks k (suc n) = let m = as_many_rows desks (k + 1) n in omega (arith, m)

pub numbers_next : (n m : ℕ) → m ≡ n + 1 → numbers 0 m ≡ numbers 0 n ++ n ∷ []
numbers_next n m e =
    let up : m ≡ suc n = omega (arith, e) in
    let same : 0 + n ≡ n = omega arith in
    ap (numbers 0) up ∙ ap (λ k. numbers 0 n ++ k ∷ []) same
