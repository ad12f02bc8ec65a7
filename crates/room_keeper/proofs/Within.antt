-- What holds of rooms holds of those that have them within.
use Rattle.std.proofs.Common.{◌≡◌, ◌∙◌, ◌++◌, List, [], ◌∷◌, length, map, ap, sym, refl, subst, arith}
use Rattle.std.specs.Prelude.{All}
use Rattle.std.proofs.lemmas.List.{append-nil, append_assoc, get_or-map, length-map, map-append, nil_from_length}

map_twice : {G B Y : Type 0} (within : G → B) (f : B → Y) (rooms : List G) → map (λ r. f (within r)) rooms ≡ map f (map within rooms)
map_twice within f [] = refl
map_twice within f (r ∷ rooms) = ap (λ l. f (within r) ∷ l) (map_twice within f rooms)

pub map_within : {G B Y : Type 0} (within : G → B) (f : B → Y) (rooms : List G) (inner : List B) → map within rooms ≡ inner → map (λ r. f (within r)) rooms ≡ map f inner
map_within within f rooms inner same = map_twice within f rooms ∙ ap (map f) same

pub all_within : {G B : Type 0} (within : G → B) (P : B → Type 0) (rooms : List G) (inner : List B) → map within rooms ≡ inner → All P inner → All (λ r. P (within r)) rooms
all_within within P rooms inner same all k d low =
    let many = length-map rooms within in
    subst P (get_or-map within rooms k d (within d) low) (subst (All P) (sym same) all k (within d) (omega (arith, low, many)))

pub as_many_within : {G B : Type 0} (within : G → B) (rooms : List G) (inner : List B) → map within rooms ≡ inner → length rooms ≡ length inner
as_many_within within rooms inner same = sym (length-map rooms within) ∙ ap length same

-- one room more
pub more_within : {G B : Type 0} (within : G → B) (done after : List G) (g : G) (coming rest all : List B) (b : B) → after ≡ done ++ g ∷ [] → coming ≡ b ∷ rest → within g ≡ b → map within done ++ coming ≡ all
    → map within after ++ rest ≡ all
more_within within done after g coming rest all b push e same is =
    ap (λ m. map within m ++ rest) push
    ∙ (ap (λ m. m ++ rest) (map-append within done (g ∷ []))
    ∙ (append_assoc (map within done) (within g ∷ []) rest
    ∙ (ap (λ x. map within done ++ x ∷ rest) same ∙ (ap (λ m. map within done ++ m) (sym e) ∙ is))))

-- once none is to come
pub all_in : {G B : Type 0} (within : G → B) (done : List G) (coming all : List B) → length coming ≡ 0 → map within done ++ coming ≡ all → map within done ≡ all
all_in within done coming all none is = sym (append-nil (map within done)) ∙ (ap (λ l. map within done ++ l) (sym (nil_from_length coming none)) ∙ is)
