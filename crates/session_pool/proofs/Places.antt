-- Places of sessions: what holds of each, as they are made from passes and taken apart again.
use Rattle.std.proofs.Common.{◌≡◌, ◌<◌, refl, ℕ, Bool, zero, List, [], ◌∷◌, ◌++◌, map, length, ap, sym, ◌∙◌, subst, arith, slice_index_or, Option, Some, None, Result, Ok, Err}
use Rattle.std.specs.Prelude.{All, IfOk, IfSome, drop, suc, take}
use Rattle.std.proofs.lemmas.List.{append-nil, append_assoc, get_or-map, length-map, map-append, nil_from_length, take_at}
use Rattle.std.proofs.lemmas.List.Elements.{All-append, All-map}
use Rattle.any_game.specs.GameKind.{GameKind}
use Rattle.board_links.specs.Doors.{Returned}
use Rattle.room_desk.specs.History.{DeskId, SetUp}
use Rattle.room_history.specs.declared.call.RoomCall.{RoomCall}
use Rattle.session_pool.specs.Passes.{Pass, dealt_by, number_of, unseen}
use Rattle.session_pool.specs.Placed.{AttachedBy}
use Rattle.session_pool.specs.Sittings.{AreServed, Fits, Rests}
use Rattle.session_pool.specs.Turn.{Stand}
use Rattle.session_pool.specs.Watched.{History}
use Rattle.session_pool.proofs.Passes.{number_is}

pub all_next : {X : Type 0} (P : X → Type 0) (xs ys : List X) (x : X) → xs ≡ x ∷ ys → All P xs → P x × All P ys
all_next P xs ys x e all =
    let here = subst (All P) e all in
    (here 0 x (omega arith), λ k d low. here (suc k) d (omega arith))

all_one : {X : Type 0} (P : X → Type 0) (x : X) → P x → All P (x ∷ [])
all_one P x here zero d low = here
all_one P x here (suc k) d low = absurd (omega arith)

pub all_more : {X : Type 0} (P : X → Type 0) (xs after : List X) (x : X) → after ≡ xs ++ x ∷ [] → All P xs → P x → All P after
all_more P xs after x push all here = subst (All P) (sym push) (All-append P xs (x ∷ []) all (all_one P x here))

pub all_front : {X : Type 0} (P : X → Type 0) (x : X) (xs : List X) → P x → All P xs → All P (x ∷ xs)
all_front P x xs here all zero d low = here
all_front P x xs here all (suc k) d low = all k d (omega (arith, low))

all_last : {X : Type 0} (P : X → Type 0) (xs : List X) (x : X) → All P (xs ++ x ∷ []) → P x × All P xs
all_last P [] x all = (all 0 x (omega arith), λ k d low. absurd (omega arith))
all_last P (y ∷ xs) x all =
    let more = all_last P xs x (λ k d low. all (suc k) d (omega (arith, low))) in
    (more.0, all_front P y xs (all 0 y (omega arith)) more.1)

-- the last of a list, and those before it
pub all_but_last : {X : Type 0} (P : X → Type 0) (xs ys : List X) (x : X) → xs ≡ ys ++ x ∷ [] → All P xs → P x × All P ys
all_but_last P xs ys x e all = all_last P ys x (subst (All P) e all)

pub all_none : {X : Type 0} (P : X → Type 0) (xs : List X) → xs ≡ [] → All P xs
all_none P xs e = subst (All P) (sym e) (λ k d low. absurd (omega arith))

-- what follows from what an answer has
pub if_ok : {A E : Type 0} {P Q : A → Type 0} (r : Result A E) → ((a : A) → P a → Q a) → IfOk r P → IfOk r Q
if_ok (Ok a) f h = f a h
if_ok (Err e) f h = tt

pub if_ok_both : {A E : Type 0} {P Q S : A → Type 0} (r : Result A E) → ((a : A) → P a → Q a → S a) → IfOk r P → IfOk r Q → IfOk r S
if_ok_both (Ok a) f h k = f a h k
if_ok_both (Err e) f h k = tt

-- what a call wrote over a whole list
pub written : {X : Type 0} (n : ℕ) (xs ys : List X) → length ys ≡ n → take n (ys ++ drop (length ys) xs) ≡ ys
written n xs ys len = take_at ys (drop (length ys) xs) n len

-- none was taken yet
pub none_moved : {X Y Z : Type 0} (f : X → Z) (g : Y → Z) (done : List X) (coming all : List Y) → done ≡ [] → coming ≡ all → map f done ++ map g coming ≡ map g all
none_moved f g done coming all none e = ap (λ l. map f l ++ map g coming) none ∙ ap (map g) e

-- one more that was taken from those still to come, by what both have
pub moved_on : {X Y Z : Type 0} (f : X → Z) (g : Y → Z) (done after : List X) (x : X) (coming rest : List Y) (y : Y) (all : List Z) → after ≡ done ++ x ∷ [] → coming ≡ y ∷ rest → f x ≡ g y
    → map f done ++ map g coming ≡ all → map f after ++ map g rest ≡ all
moved_on f g done after x coming rest y all push e same is =
    ap (λ m. map f m ++ map g rest) push
    ∙ (ap (λ m. m ++ map g rest) (map-append f done (x ∷ []))
    ∙ (append_assoc (map f done) (f x ∷ []) (map g rest)
    ∙ (ap (λ z. map f done ++ z ∷ map g rest) same ∙ (ap (λ z. map f done ++ map g z) (sym e) ∙ is))))

-- once none is to come, all were moved
pub all_moved : {X Y Z : Type 0} (f : X → Z) (g : Y → Z) (done : List X) (coming : List Y) (all : List Z) → length coming ≡ 0 → map f done ++ map g coming ≡ all → map f done ≡ all
all_moved f g done coming all none is = sym (append-nil (map f done)) ∙ (ap (λ l. map f done ++ map g l) (sym (nil_from_length coming none)) ∙ is)

-- lists of which each place gives the same are the same
same_map : {X Y : Type 0} (f : X → Y) (xs ys : List X) → length xs ≡ length ys → ((k : ℕ) (d : X) → k < length xs → f (slice_index_or ys k d) ≡ f (slice_index_or xs k d)) → map f ys ≡ map f xs
same_map f [] [] e h = refl
same_map f [] (y ∷ ys) e h = absurd (omega (arith, e))
same_map f (x ∷ xs) [] e h = absurd (omega (arith, e))
same_map f (x ∷ xs) (y ∷ ys) e h =
    let first : f y ≡ f x = h 0 x (omega arith) in
    let more = same_map f xs ys (omega (arith, e)) (λ k d low. h (suc k) d (omega (arith, low))) in
    ap (λ a. a ∷ map f ys) first ∙ ap (λ l. f x ∷ l) more

map_both : {X Y Z : Type 0} (f : X → Y) (g : Y → Z) (xs : List X) → map g (map f xs) ≡ map (λ x. g (f x)) xs
map_both f g [] = refl
map_both f g (x ∷ xs) = ap (λ l. g (f x) ∷ l) (map_both f g xs)

-- what is made of what both have is the same
pub through : {X Y Z W : Type 0} (f : X → Y) (g : Z → Y) (h : Y → W) (xs : List X) (zs : List Z) → map f xs ≡ map g zs → map (λ x. h (f x)) xs ≡ map (λ z. h (g z)) zs
through f g h xs zs e = sym (map_both f h xs) ∙ (ap (map h) e ∙ map_both g h zs)

pub as_many_mapped : {X Y Z : Type 0} (f : X → Y) (g : Z → Y) (xs : List X) (zs : List Z) → map f xs ≡ map g zs → length xs ≡ length zs
as_many_mapped f g xs zs e = let l = ap length e in let m = length-map xs f in let n = length-map zs g in omega (arith, l, m, n)

-- the passes of a place are those of its number
passes_of : (desks : List SetUp) (bench : DeskId) (seed : List ℕ) (places : ℕ) (pasts : List History) (s : Stand) → Fits desks bench seed places pasts s → map unseen s.passes ≡ map (dealt_by (number_of s.passes)) desks
passes_of desks bench seed places pasts s fit =
    fit.belong ∙ ap (λ n. map (dealt_by n) desks) (sym (number_is desks s.core.pass s.passes fit.some fit.belong))

-- places of the same numbers have the same passes, whatever these have seen
pub same_passes : (desks : List SetUp) (bench : DeskId) (seed : List ℕ) (places : ℕ) (pasts : List History) (before after : List Stand) → map (λ s. number_of s.passes) after ≡ map (λ s. number_of s.passes) before
    → All (Fits desks bench seed places pasts) before → All (Fits desks bench seed places pasts) after → map (λ s. map unseen s.passes) after ≡ map (λ s. map unseen s.passes) before
same_passes desks bench seed places pasts before after e fit fits =
    let number : Stand → ℕ = λ s. number_of s.passes in
    let many = as_many_mapped number number after before e in
    same_map (λ s. map unseen s.passes) before after (sym many) (λ k d low.
    let there : k < length after = omega (arith, low, many) in
    let same : number (slice_index_or after k d) ≡ number (slice_index_or before k d) =
    sym (get_or-map number after k d (number d) there) ∙ (ap (λ l. slice_index_or l k (number d)) e ∙ get_or-map number before k d (number d) low) in
    passes_of desks bench seed places pasts (slice_index_or after k d) (fits k d there)
    ∙ (ap (λ n. map (dealt_by n) desks) same ∙ sym (passes_of desks bench seed places pasts (slice_index_or before k d) (fit k d low))))

-- at a place without a session no pass is attached
free_at : (desks : List SetUp) (bench : DeskId) (seed : List ℕ) (places : ℕ) (pasts : List History) (s : Stand) → Fits desks bench seed places pasts s → Rests seed places pasts s → AttachedBy s.passes None
free_at desks bench seed places pasts s fit rest = subst (AttachedBy s.passes) (ap (λ c. c.at) rest.fresh_is) fit.attached

pub all_of_map : {X Y : Type 0} (P : Y → Type 0) (f : X → Y) (xs : List X) (ys : List Y) → map f xs ≡ ys → All P ys → All (λ x. P (f x)) xs
all_of_map P f xs ys e all k d low =
    let many = length-map xs f in
    let len = ap length e in
    subst P (ap (λ z. slice_index_or z k (f d)) (sym e) ∙ get_or-map f xs k d (f d) low) (all k (f d) (omega arith))

pub all_free : {V : Type 0} (items : V → List Pass) (desks : List SetUp) (bench : DeskId) (seed : List ℕ) (places : ℕ) (pasts : List History) (sittings : List Stand) (back : List V) → map items back ≡ map (λ s. s.passes) sittings
    → All (Fits desks bench seed places pasts) sittings → All (Rests seed places pasts) sittings → All (λ v. AttachedBy (items v) None) back
all_free items desks bench seed places pasts sittings back e fit rest =
    all_of_map (λ p. AttachedBy p None) items back (map (λ s. s.passes) sittings) e
    (All-map (λ p. AttachedBy p None) (λ s. s.passes) sittings (λ k d low. free_at desks bench seed places pasts (slice_index_or sittings k d) (fit k d low) (rest k d low)))

-- a door that tells of no link that came back
pub none_served : (may_refuse : RoomCall GameKind → Bool) (seed : List ℕ) (places : ℕ) (pasts : List History) (known : Stand → Type 0) (told : Option (List Returned)) → IfSome told (λ links. links ≡ []) → AreServed may_refuse seed places pasts known told
none_served may_refuse seed places pasts known None none = tt
none_served may_refuse seed places pasts known (Some links) none = subst (λ l. AreServed may_refuse seed places pasts known (Some l)) (sym none) (λ k d low. absurd (omega arith))

-- what is known of where sessions stood in the end says something else too
pub served_as : (may_refuse : RoomCall GameKind → Bool) (seed : List ℕ) (places : ℕ) (pasts : List History) (known other : Stand → Type 0) → ((s : Stand) → known s → other s) → (told : Option (List Returned))
    → AreServed may_refuse seed places pasts known told → AreServed may_refuse seed places pasts other told
served_as may_refuse seed places pasts known other says None served = tt
served_as may_refuse seed places pasts known other says (Some links) served = λ k d low.
    let was = served k d low in
    (was.0, says was.0 was.1, was.2)

-- places whose passes at the bench are of its desk
at_the_bench : (desks : List SetUp) (bench : DeskId) (seed : List ℕ) (places : ℕ) (pasts : List History) (sittings : List Stand) → All (Fits desks bench seed places pasts) sittings → All (λ (s : Stand). s.bench.desk ≡ bench) sittings
at_the_bench desks bench seed places pasts sittings fit k d low = (fit k d low).at_bench

pub all_at_bench : {V : Type 0} (desk : V → DeskId) (desks : List SetUp) (bench : DeskId) (seed : List ℕ) (places : ℕ) (pasts : List History) (sittings : List Stand) (back : List V) → map desk back ≡ map (λ s. s.bench.desk) sittings
    → All (Fits desks bench seed places pasts) sittings → All (λ v. desk v ≡ bench) back
all_at_bench desk desks bench seed places pasts sittings back e fit =
    all_of_map (λ b. b ≡ bench) desk back (map (λ s. s.bench.desk) sittings) e
    (All-map (λ b. b ≡ bench) (λ s. s.bench.desk) sittings (at_the_bench desks bench seed places pasts sittings fit))
