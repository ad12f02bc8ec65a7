-- A watch: what its passes know as they are shown others, and how they go out and come back.
use mathlib.Core.Logic.{dite}
use native.Mathlib.Decide.{ℕ_discrete}
use Rattle.std.proofs.Common.{◌≡◌, ◌<◌, ◌+◌, refl, ℕ, zero, suc, List, [], ◌∷◌, ◌++◌, map, length, ap, sym, ◌∙◌, subst, arith, slice_index_or, slice_set, Option, Some, None, append_assoc}
use Rattle.std.proofs.lemmas.List.{get_or-map, get_or_default, length-map, map-append, length-set, get_or-set_same, get_or-set_other}
use Rattle.room_desk.specs.History.{Begins, DeskId, SetUp}
use Rattle.session_pool.specs.Passes.{Belong, Pass, dealt_by, unseen}
use Rattle.session_pool.specs.Watched.{AllBegin, AllKnow, History, Knows, desk_at, seen_of}
use Rattle.session_pool.proofs.Seeing.{begins_on}

-- ---- one pass

-- what a pass of a watch knew, it still knows once it has seen more
pub knows_on : (at : Option Pass) (w : Pass) (seen : History) → at ≡ Some w → Begins seen w.seen → (p : Pass) → Knows at p → Begins seen p.seen
knows_on at w seen is goes p knows = begins_on seen w.seen p.seen goes (subst (λ o. Knows o p) is knows)

-- ---- all of them, as they are shown others

-- passes up to a place were shown; and what each knew, it still knows
pub record Partly (place : ℕ) (now old : List (Option Pass)) (passes : List Pass) : Type 0 where
  pub many : length now ≡ length old
  pub shown : (k : ℕ) (o : Option Pass) (p : Pass) → k < place → k < length now → Knows (slice_index_or now k o) (slice_index_or passes k p)
  pub keeps : (k : ℕ) (o : Option Pass) (p : Pass) → k < length now → Knows (slice_index_or old k o) p → Knows (slice_index_or now k o) p

pub none_shown : (watch : List (Option Pass)) (passes : List Pass) → Partly 0 watch watch passes
none_shown watch passes = record { many = refl; shown = λ k o p low. absurd (omega (arith, low)); keeps = λ k o p low knows. knows }

pub shown_on : (place up : ℕ) (now old : List (Option Pass)) (passes : List Pass) (after d : Option Pass) (q : Pass) → up ≡ place + 1 → place < length now → place < length passes
    → Knows after (slice_index_or passes place q) → ((p : Pass) → Knows (slice_index_or now place d) p → Knows after p) → Partly place now old passes → Partly up (slice_set now place after) old passes
shown_on place up now old passes after d q e low there here keeps h =
    let n = length-set now place after in
    record {
      many = n ∙ h.many;
      shown = λ k o p below within. dite (ℕ_discrete k place)
          (λ same. subst (λ i. Knows (slice_index_or (slice_set now place after) i o) (slice_index_or passes i p)) (sym same)
          (subst (λ x. Knows x (slice_index_or passes place p)) (sym (get_or-set_same now place after o low))
          (subst (λ y. Knows after y) (get_or_default passes place q p there) here)))
          (λ other. subst (λ x. Knows x (slice_index_or passes k p)) (sym (get_or-set_other now place k after o other))
          (h.shown k o p (omega (arith, below, e, other)) (omega (arith, within, n))));
      keeps = λ k o p within knew. dite (ℕ_discrete k place)
          (λ same. subst (λ x. Knows x p) (sym (ap (λ i. slice_index_or (slice_set now place after) i o) same ∙ get_or-set_same now place after o low))
          (keeps p (subst (λ x. Knows x p) (ap (λ i. slice_index_or now i o) same ∙ get_or_default now place o d low) (h.keeps k o p (omega (arith, within, n)) knew))))
          (λ other. subst (λ x. Knows x p) (sym (get_or-set_other now place k after o other)) (h.keeps k o p (omega (arith, within, n)) knew));
    }

-- all were shown
pub all_shown : (place : ℕ) (now old : List (Option Pass)) (passes : List Pass) → length now < place + 1 → length passes ≡ length now → Partly place now old passes → AllKnow now passes
all_shown place now old passes over many h = record { many = many; each = λ k o p low. h.shown k o p (omega (arith, over, low)) low }

pub all_keep : (place : ℕ) (now old : List (Option Pass)) (passes more : List Pass) → Partly place now old passes → AllKnow old more → AllKnow now more
all_keep place now old passes more h knew = record { many = knew.many ∙ sym h.many; each = λ k o p low. h.keeps k o (slice_index_or more k p) low (knew.each k o p (omega (arith, low, h.many))) }

-- a place that is written as it was
pub set_here : {X : Type 0} (xs : List X) (k : ℕ) (x d : X) → k < length xs → x ≡ slice_index_or xs k d → slice_set xs k x ≡ xs
set_here [] k x d low e = absurd (omega (arith, low))
set_here (y ∷ xs) zero x d low e = ap (λ z. z ∷ xs) e
set_here (y ∷ xs) (suc k) x d low e = ap (λ l. y ∷ l) (set_here xs k x d (omega (arith, low)) e)

-- what two lists have at one place
pub same_at : {X Y Z : Type 0} (f : X → Z) (g : Y → Z) (xs : List X) (ys : List Y) → map f xs ≡ map g ys → (k : ℕ) (x : X) (y : Y) → k < length ys → f (slice_index_or xs k x) ≡ g (slice_index_or ys k y)
same_at f g xs ys e k x y low =
    let l = ap length e in let m = length-map xs f in let n = length-map ys g in
    sym (get_or-map f xs k x (f x) (omega (arith, low, l, m, n))) ∙ (ap (λ zs. slice_index_or zs k (f x)) e ∙ get_or-map g ys k y (f x) low)

pub as_many_as : {X Y Z : Type 0} (f : X → Z) (g : Y → Z) (xs : List X) (ys : List Y) → map f xs ≡ map g ys → length xs ≡ length ys
as_many_as f g xs ys e = let l = ap length e in let m = length-map xs f in let n = length-map ys g in omega (arith, l, m, n)

map_both : {X Y Z : Type 0} (f : X → Y) (g : Y → Z) (xs : List X) → map g (map f xs) ≡ map (λ x. g (f x)) xs
map_both f g [] = refl
map_both f g (x ∷ xs) = ap (λ l. g (f x) ∷ l) (map_both f g xs)

-- passes that belong to desks are theirs
pub own_desks : (desks : List SetUp) (number : ℕ) (row : List Pass) → Belong desks number row → map (λ (p : Pass). p.desk) row ≡ map (λ (d : SetUp). d.desk) desks
own_desks desks number row is =
    sym (map_both unseen (λ (p : Pass). p.desk) row) ∙ (ap (λ l. map (λ (p : Pass). p.desk) l) is ∙ map_both (dealt_by number) (λ (p : Pass). p.desk) desks)

-- the desks of a hall, by its name
pub some_desks : (desks : List SetUp) (named : List DeskId) (watch : List (Option Pass)) → map (λ (d : SetUp). d.desk) desks ≡ named → map desk_at watch ≡ map Some named
    → map desk_at watch ≡ map (λ (d : SetUp). Some d.desk) desks
some_desks desks named watch is e = e ∙ (ap (map Some) (sym is) ∙ map_both (λ (d : SetUp). d.desk) Some desks)

-- ---- as they go out and come back

pub back_on : {X : Type 0} (done after : List X) (x : X) (at : Option X) (coming rest all : List (Option X)) → after ≡ done ++ x ∷ [] → at ≡ Some x → coming ≡ at ∷ rest
    → map Some done ++ coming ≡ all → map Some after ++ rest ≡ all
back_on done after x at coming rest all push some e is =
    ap (λ l. map Some l ++ rest) push
    ∙ (ap (λ l. l ++ rest) (map-append Some done (x ∷ []))
    ∙ (append_assoc (map Some done) (Some x ∷ []) rest
    ∙ (ap (λ o. map Some done ++ o ∷ rest) (sym some) ∙ (ap (λ l. map Some done ++ l) (sym e) ∙ is))))

-- each is there, and so are the others
pub next_there : (coming rest : List (Option Pass)) (at : Option Pass) (desks : List DeskId) → coming ≡ at ∷ rest → map desk_at coming ≡ map Some desks
    → (d : DeskId) × (more : List DeskId) × (desk_at at ≡ Some d) × (map desk_at rest ≡ map Some more)
next_there coming rest at desks e is = by desks (sym (ap (map desk_at) e) ∙ is)
  where
    by : (desks : List DeskId) → desk_at at ∷ map desk_at rest ≡ map Some desks → (d : DeskId) × (more : List DeskId) × (desk_at at ≡ Some d) × (map desk_at rest ≡ map Some more)
    by [] f = absurd (cc)
    by (d ∷ more) f = (d, more, cc, cc)

somes : {X : Type 0} → List (Option X) → List X
somes [] = []
somes (None ∷ l) = somes l
somes (Some x ∷ l) = x ∷ somes l

somes_of : {X : Type 0} (xs : List X) → somes (map Some xs) ≡ xs
unfolding somes
somes_of [] = refl
somes_of (x ∷ xs) = ap (λ l. x ∷ l) (somes_of xs)

-- the desks of passes that came back
pub desks_back : (back : List Pass) (watch : List (Option Pass)) (named : List DeskId) → map Some back ≡ watch → map desk_at watch ≡ map Some named → map (λ (p : Pass). p.desk) back ≡ named
desks_back back watch named is e =
    let named_is : map Some (map (λ (p : Pass). p.desk) back) ≡ map Some named =
    map_both (λ (p : Pass). p.desk) Some back ∙ (sym (map_both Some desk_at back) ∙ (ap (map desk_at) is ∙ e)) in
    sym (somes_of (map (λ (p : Pass). p.desk) back)) ∙ (ap somes named_is ∙ somes_of named)

-- what a watch knows is how the histories begin that its passes have seen
pub all_begin : (watch passes : List Pass) → AllKnow (map Some watch) passes → AllBegin (seen_of watch) (seen_of passes)
all_begin [] [] h = tt
all_begin [] (p ∷ passes) h = absurd (omega (arith, h.many))
all_begin (w ∷ watch) [] h = absurd (omega (arith, h.many))
all_begin (w ∷ watch) (p ∷ passes) h = (
  h.each 0 None p (omega arith),
  all_begin watch passes (record { many = omega (arith, h.many); each = λ k o q low. h.each (suc k) o q (omega (arith, low)) }),
)

-- passes that go out are of their desks
pub out_desks : (passes : List Pass) (watch : List (Option Pass)) (named : List DeskId) → watch ≡ map Some passes → map (λ (p : Pass). p.desk) passes ≡ named → map desk_at watch ≡ map Some named
out_desks passes watch named is e = ap (map desk_at) is ∙ (map_both Some desk_at passes ∙ (sym (map_both (λ (p : Pass). p.desk) Some passes) ∙ ap (map Some) e))
