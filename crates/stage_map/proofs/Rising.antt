-- Rows stay in rising order, and each of them keeps what held of it, where a row is put and where one leaves.
use Rattle.std.proofs.Common.{◌≡◌, ◌<◌, ℕ, Bool, true, false, cond, nat_lt, List, [], ◌∷◌, ◌++◌, length, filter, refl, arith}
use Rattle.std.proofs.lemmas.Bool.Decides.{nat_tests}
use Rattle.std.specs.List.{AllByRecursion}
use Rattle.stage_map.specs.declared.rows.Row.{Row}
use Rattle.stage_map.specs.IsSound.{Rise}
use Rattle.stage_map.specs.Rows.{above, below, put, without}

pub all_append : {X : Type 0} (P : X → Type 0) (first later : List X) → AllByRecursion P first → AllByRecursion P later → AllByRecursion P (first ++ later)
all_append P [] later a b = b
all_append P (x ∷ first) later a b = (a.0, all_append P first later a.1 b)

pub all_weaker : {X : Type 0} (P Q : X → Type 0) → ((x : X) → P x → Q x) → (xs : List X) → AllByRecursion P xs → AllByRecursion Q xs
all_weaker P Q f [] a = tt
all_weaker P Q f (x ∷ xs) a = (f x a.0, all_weaker P Q f xs a.1)

all_where : {X : Type 0} (P : X → Type 0) (b : Bool) (x : X) (xs : List X) → P x → AllByRecursion P xs → AllByRecursion P (cond b (x ∷ xs) xs)
all_where P true x xs p a = (p, a)
all_where P false x xs p a = a

pub all_filter : {X : Type 0} (P : X → Type 0) (t : X → Bool) (xs : List X) → AllByRecursion P xs → AllByRecursion P (filter t xs)
all_filter P t [] a = tt
all_filter P t (x ∷ xs) a = all_where P (t x) x (filter t xs) a.0 (all_filter P t xs a.1)

passing : {X : Type 0} (P : X → Type 0) (t : X → Bool) → ((x : X) → t x ≡ true → P x) → (b : Bool) (x : X) (xs : List X) → t x ≡ b → AllByRecursion P xs → AllByRecursion P (cond b (x ∷ xs) xs)
passing P t f true x xs e a = (f x e, a)
passing P t f false x xs e a = a

pub all_passing : {X : Type 0} (P : X → Type 0) (t : X → Bool) → ((x : X) → t x ≡ true → P x) → (xs : List X) → AllByRecursion P (filter t xs)
all_passing P t f [] = tt
all_passing P t f (x ∷ xs) = passing P t f (t x) x (filter t xs) refl (all_passing P t f xs)

lower : (a b : ℕ) → nat_lt a b ≡ true → a < b
lower a b e = grind (arith, nat_tests)

pub all_below : (seat : ℕ) (listed : List Row) → AllByRecursion (λ (row : Row). row.seat < seat) (below seat listed)
all_below seat listed = all_passing (λ (row : Row). row.seat < seat) (λ (row : Row). nat_lt row.seat seat) (λ row e. lower row.seat seat e) listed

pub all_above : (seat : ℕ) (listed : List Row) → AllByRecursion (λ (row : Row). seat < row.seat) (above seat listed)
all_above seat listed = all_passing (λ (row : Row). seat < row.seat) (λ (row : Row). nat_lt seat row.seat) (λ row e. lower seat row.seat e) listed

rise_where : (b : Bool) (row : Row) (listed : List Row) → AllByRecursion (λ (later : Row). row.seat < later.seat) listed → Rise listed → Rise (cond b (row ∷ listed) listed)
rise_where true row listed a r = (a, r)
rise_where false row listed a r = r

pub rise_filter : (t : Row → Bool) (listed : List Row) → Rise listed → Rise (filter t listed)
rise_filter t [] r = tt
rise_filter t (row ∷ listed) r = rise_where (t row) row (filter t listed) (all_filter (λ (later : Row). row.seat < later.seat) t listed r.0) (rise_filter t listed r.1)

further : (low seat : ℕ) (listed : List Row) → low < seat → AllByRecursion (λ (row : Row). seat < row.seat) listed → AllByRecursion (λ (row : Row). low < row.seat) listed
further low seat listed h a = all_weaker (λ (row : Row). seat < row.seat) (λ (row : Row). low < row.seat) (λ row k. omega arith) listed a

rise_apart : (seat : ℕ) (first later : List Row) → AllByRecursion (λ (row : Row). row.seat < seat) first → AllByRecursion (λ (row : Row). seat < row.seat) later → Rise first → Rise later → Rise (first ++ later)
rise_apart seat [] later f l rf rl = rl
rise_apart seat (row ∷ first) later f l rf rl =
    (all_append (λ (other : Row). row.seat < other.seat) first later rf.0 (further row.seat seat later f.0 l), rise_apart seat first later f.1 l rf.1 rl)

rise_round : (middle : Row) (first later : List Row) → AllByRecursion (λ (row : Row). row.seat < middle.seat) first → AllByRecursion (λ (row : Row). middle.seat < row.seat) later → Rise first → Rise later → Rise (first ++ middle ∷ later)
rise_round middle [] later f l rf rl = (l, rl)
rise_round middle (row ∷ first) later f l rf rl =
    (all_append (λ (other : Row). row.seat < other.seat) first (middle ∷ later) rf.0 (f.0, further row.seat middle.seat later f.0 l), rise_round middle first later f.1 l rf.1 rl)

pub rise_put : (row : Row) (listed : List Row) → Rise listed → Rise (put row listed)
rise_put row listed r =
    rise_round row (below row.seat listed) (above row.seat listed) (all_below row.seat listed) (all_above row.seat listed) (rise_filter (λ (other : Row). nat_lt other.seat row.seat) listed r) (rise_filter (λ (other : Row). nat_lt row.seat other.seat) listed r)

pub rise_without : (seat : ℕ) (listed : List Row) → Rise listed → Rise (without seat listed)
rise_without seat listed r =
    rise_apart seat (below seat listed) (above seat listed) (all_below seat listed) (all_above seat listed) (rise_filter (λ (other : Row). nat_lt other.seat seat) listed r) (rise_filter (λ (other : Row). nat_lt seat other.seat) listed r)

pub all_put : (P : Row → Type 0) (row : Row) (listed : List Row) → P row → AllByRecursion P listed → AllByRecursion P (put row listed)
all_put P row listed p a =
    all_append P (below row.seat listed) (row ∷ above row.seat listed) (all_filter P (λ (other : Row). nat_lt other.seat row.seat) listed a) (p, all_filter P (λ (other : Row). nat_lt row.seat other.seat) listed a)

pub all_without : (P : Row → Type 0) (seat : ℕ) (listed : List Row) → AllByRecursion P listed → AllByRecursion P (without seat listed)
all_without P seat listed a =
    all_append P (below seat listed) (above seat listed) (all_filter P (λ (other : Row). nat_lt other.seat seat) listed a) (all_filter P (λ (other : Row). nat_lt seat other.seat) listed a)

some_row : (first : List Row) (row : Row) (later : List Row) → 0 < length (first ++ row ∷ later)
some_row [] row later = omega arith
some_row (other ∷ first) row later = omega arith

-- a map with a seat put in isn't empty
pub put_stands : (row : Row) (listed : List Row) → 0 < length (put row listed)
put_stands row listed = some_row (below row.seat listed) row (above row.seat listed)
