-- What holds of each worker of a list, as the list is gone through and handed to threads.
use Rattle.std.proofs.Common.{◌≡◌, ℕ, zero, suc, List, [], ◌∷◌, ◌++◌, map, length, ap, sym, ◌∙◌, subst, arith, slice_index_or, take, drop}
use Rattle.std.specs.Prelude.{All}
use Rattle.link_rounds.proofs.Benches.{written}
use Rattle.std.proofs.lemmas.List.{append_assoc, get_or-map, length-map, map-append}
use Rattle.std.proofs.lemmas.Simd.{map-map}
use Rattle.std.proofs.lemmas.List.Elements.{All-append, All-map}

pub all_next : {X : Type 0} (P : X → Type 0) (xs ys : List X) (x : X) → xs ≡ x ∷ ys → All P xs → P x × All P ys
all_next P xs ys x e all =
    let here = subst (All P) e all in
    (here 0 x (omega arith), λ k d low. here (suc k) d (omega arith))

pub moved_over : {X Y : Type 0} (f : X → Y) (xs ys : List X) (x : X) (before after all : List Y) → xs ≡ x ∷ ys → after ≡ before ++ f x ∷ [] → before ++ map f xs ≡ all → after ++ map f ys ≡ all
moved_over f xs ys x before after all e push is =
    ap (λ b. b ++ map f ys) push ∙ (append_assoc before (f x ∷ []) (map f ys) ∙ (ap (λ z. before ++ map f z) (sym e) ∙ is))

all_one : {X : Type 0} (P : X → Type 0) (x : X) → P x → All P (x ∷ [])
all_one P x here zero d low = here
all_one P x here (suc k) d low = absurd (omega arith)

pub all_more : {X : Type 0} (P : X → Type 0) (xs after : List X) (x : X) → after ≡ xs ++ x ∷ [] → All P xs → P x → All P after
all_more P xs after x push all here = subst (All P) (sym push) (All-append P xs (x ∷ []) all (all_one P x here))

map_more : {X Y : Type 0} (f : X → Y) (xs after : List X) (x : X) → after ≡ xs ++ x ∷ [] → map f after ≡ map f xs ++ f x ∷ []
map_more f xs after x push = ap (map f) push ∙ map-append f xs (x ∷ [])

-- what is still to come is one shorter
pub taken_on : {X Y : Type 0} (f : X → Y) (xs after : List X) (x : X) (ys rest all : List Y) → after ≡ xs ++ x ∷ [] → ys ≡ f x ∷ rest → map f xs ++ ys ≡ all → map f after ++ rest ≡ all
taken_on f xs after x ys rest all push e is =
    ap (λ m. m ++ rest) (map_more f xs after x push) ∙ (append_assoc (map f xs) (f x ∷ []) rest ∙ (ap (λ z. map f xs ++ z) (sym e) ∙ is))

-- the same, where what the item has is known by an equation
pub taken_by : {X Y : Type 0} (f : X → Y) (xs after : List X) (x : X) (y : Y) (ys rest all : List Y) → after ≡ xs ++ x ∷ [] → f x ≡ y → ys ≡ y ∷ rest → map f xs ++ ys ≡ all → map f after ++ rest ≡ all
taken_by f xs after x y ys rest all push same e is = taken_on f xs after x ys rest all push (e ∙ ap (λ z. z ∷ rest) (sym same)) is

pub all_of_map : {X Y : Type 0} (P : Y → Type 0) (f : X → Y) (xs : List X) (ys : List Y) → map f xs ≡ ys → All P ys → All (λ x. P (f x)) xs
all_of_map P f xs ys e all k d low =
    let many = length-map xs f in
    let len = ap length e in
    subst P (ap (λ z. slice_index_or z k (f d)) (sym e) ∙ get_or-map f xs k d (f d) low) (all k (f d) (omega arith))

pub written_all : {X : Type 0} (P : X → Type 0) (n : ℕ) (xs ys : List X) → length ys ≡ n → All P ys → All P (take n (ys ++ drop (length ys) xs))
written_all P n xs ys len all = subst (All P) (sym (written n xs ys len)) all

-- what holds of what each worker has, after a call wrote over all of them, holds of what is taken from them
pub handed : {X Y : Type 0} (P : Y → Type 0) (f : X → Y) (n : ℕ) (xs ys : List X) (last : List Y) → length ys ≡ n → All (λ x. P (f x)) ys → last ≡ map f (take n (ys ++ drop (length ys) xs)) → All P last
handed P f n xs ys last len all e = subst (All P) (sym e) (All-map P f _ (written_all (λ x. P (f x)) n xs ys len all))

-- what is told of what each worker has is told of what is taken from them
pub map_through : {X Y Z : Type 0} (f : Y → Z) (h : X → Y) (xs : List X) (ys : List Y) → map h xs ≡ ys → map (λ x. f (h x)) xs ≡ map f ys
map_through f h xs ys e = sym (map-map f h xs) ∙ ap (map f) e

pub handed_map : {X Y Z : Type 0} (f : Y → Z) (h : X → Y) (n : ℕ) (xs ys : List X) (last : List Y) → length ys ≡ n → last ≡ map h (take n (ys ++ drop (length ys) xs)) → map f last ≡ map (λ x. f (h x)) ys
handed_map f h n xs ys last len e = sym (map_through f h (take n (ys ++ drop (length ys) xs)) last (sym e)) ∙ ap (map (λ x. f (h x))) (written n xs ys len)
