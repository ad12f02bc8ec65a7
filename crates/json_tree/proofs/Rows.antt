-- Two objects whose names rise are equal where they hold the same under each known name, and no other name.
use Rattle.std.proofs.Common.{◌≡◌, ℕ, List, [], ◌∷◌, Bool, true, false, not, Option, Some, None, Ordering, Less, Equal, Greater, inl, inr, refl, sym, ap, ◌∙◌, subst, is_eq, bytes_eq}
use Rattle.std.proofs.lemmas.Bool.{both_ways, or_cases, or_parts, not-false}
use Rattle.std.proofs.lemmas.Cmp.{nat_list_cmp_total, tied_itself}
use Rattle.std.proofs.lemmas.Map.Text.{is_eq-slice_cmp}
use Rattle.std.proofs.lemmas.Slice.Eq.{bytes_eq-Decides}
use Rattle.std.specs.List.{AllByRecursion}
use Rattle.std.specs.Ordering.{match_ordering}
use Rattle.serde_json.specs.Data.{Data, Members, no_members, member}
use Rattle.serde_json.specs.Find.{get_member}
use Rattle.serde_json.specs.Written.{has_float, members_have_float}
use Rattle.json_tree.specs.Canonical.{AreAbove, IsOrdered, IsCanonical, MembersAreCanonical}
use Rattle.json_tree.specs.Names.{is_known, has_extra}
use Rattle.json_tree.proofs.Canonicals.{order, above_more, greater}

pub name_is : (k l : List ℕ) → order k l ≡ Equal → k ≡ l
name_is k l h = (bytes_eq-Decides k l).0 (sym (is_eq-slice_cmp k l) ∙ ap is_eq h)

name_itself : (k : List ℕ) → order k k ≡ Equal
name_itself k = tied_itself nat_list_cmp_total k

here : (k : List ℕ) (d : Data) (ms : Members) → get_member k (member k d ms) ≡ Some d
here k d ms = rw (name_itself k) refl

-- nothing stands under a name below all others
absent : (k : List ℕ) (ms : Members) → AreAbove k ms → get_member k ms ≡ None
absent k no_members h = refl
absent k (member l e ms) h = rw (h.0) (absent k ms h.1)

missing : (k l : List ℕ) (e : Data) (ns : Members) → order k l ≡ Less → AreAbove l ns → get_member k (member l e ns) ≡ None
missing k l e ns h a = absent k (member l e ns) (h, above_more k l ns h a)

tail_at : (o : Ordering) (q k : List ℕ) (d e : Data) (ms ns : Members) → order q k ≡ o → AreAbove k ms → AreAbove k ns
    → match_ordering o (get_member q ms) (Some d) (get_member q ms) ≡ match_ordering o (get_member q ns) (Some e) (get_member q ns) → get_member q ms ≡ get_member q ns
tail_at Less q k d e ms ns is h i s = s
tail_at Equal q k d e ms ns is h i s = let same : k ≡ q = sym (name_is q k is) in absent q ms (subst (λ n. AreAbove n ms) same h) ∙ sym (absent q ns (subst (λ n. AreAbove n ns) same i))
tail_at Greater q k d e ms ns is h i s = s

abbrev AreAlike : Members → Members → Type 0
AreAlike ms ns = (q : List ℕ) → get_member q ms ≡ get_member q ns

heads : (o : Ordering) (k l : List ℕ) (d e : Data) (ms ns : Members) → order k l ≡ o → AreAbove k ms → AreAbove l ns → AreAlike (member k d ms) (member l e ns)
    → (AreAlike ms ns → ms ≡ ns) → member k d ms ≡ member l e ns
heads Less k l d e ms ns is h i s more = let found = here k d ms in let lacks = missing k l e ns is i in absurd (cc (s k, found, lacks))
heads Greater k l d e ms ns is h i s more = let found = here l e ns in let lacks = missing l k d ms (greater k l is) h in absurd (cc (s l, found, lacks))
heads Equal k l d e ms ns is h i s more =
    let same : k ≡ l = name_is k l is in
    alike l d e ms ns (subst (λ n. AreAbove n ms) same h) i (subst (λ n. AreAlike (member n d ms) (member l e ns)) same s) more (ap (λ n. member n d ms) same)
  where
    alike : (l : List ℕ) (d e : Data) (ms ns : Members) → AreAbove l ms → AreAbove l ns → AreAlike (member l d ms) (member l e ns) → (AreAlike ms ns → ms ≡ ns)
        → {first : Members} → first ≡ member l d ms → first ≡ member l e ns
    alike l d e ms ns h i s more is =
        let values : Some d ≡ Some e = sym (here l d ms) ∙ s l ∙ here l e ns in
        let value : d ≡ e = cc in
        let tails : ms ≡ ns = more (λ q. tail_at (order q l) q l d e ms ns refl h i (s q)) in
        is ∙ ap (λ x. member l x ms) value ∙ ap (member l e) tails

pub same_members : (ms ns : Members) → IsOrdered ms → IsOrdered ns → AreAlike ms ns → ms ≡ ns
same_members no_members no_members h i s = refl
same_members no_members (member l e ns) h i s = let found = here l e ns in absurd (cc (s l, found))
same_members (member k d ms) no_members h i s = let found = here k d ms in absurd (cc (s k, found))
same_members (member k d ms) (member l e ns) h i s = heads (order k l) k l d e ms ns refl h.0 i.0 s (same_members ms ns h.1 i.1)

pub ordered : (ms : Members) → MembersAreCanonical ms → IsOrdered ms
ordered no_members h = tt
ordered (member k d ms) h = (h.0, ordered ms h.2)

-- ---- rows

known_alike : (known : List (List ℕ)) (ms ns : Members) (q : List ℕ) → AllByRecursion (λ name. get_member name ms ≡ get_member name ns) known → is_known known q ≡ true → get_member q ms ≡ get_member q ns
known_alike [] ms ns q a h = absurd (both_ways false refl h)
known_alike (k ∷ known) ms ns q a h = elim (or_cases (bytes_eq q k) (is_known known q) h) [
  | inl p ↦ subst (λ n. get_member n ms ≡ get_member n ns) (sym ((bytes_eq-Decides q k).0 p)) a.0
  | inr p ↦ known_alike known ms ns q a.1 p
]

lacks_at : (o : Ordering) (known : List (List ℕ)) (q k : List ℕ) (d : Data) (rest : Option Data) → order q k ≡ o → is_known known q ≡ false → is_known known k ≡ true → rest ≡ None
    → match_ordering o rest (Some d) rest ≡ None
lacks_at Less known q k d rest is u h r = r
lacks_at Equal known q k d rest is u h r = absurd (both_ways (is_known known q) u (subst (λ n. is_known known n ≡ true) (sym (name_is q k is)) h))
lacks_at Greater known q k d rest is u h r = r

lacks : (known : List (List ℕ)) (q : List ℕ) (ms : Members) → is_known known q ≡ false → has_extra known ms ≡ false → get_member q ms ≡ None
lacks known q no_members u h = refl
lacks known q (member k d ms) u h =
    let both = or_parts (not (is_known known k)) (has_extra known ms) h in
    lacks_at (order q k) known q k d (get_member q ms) refl u (not-false (is_known known k) both.0) (lacks known q ms u both.1)

alike_at : (b : Bool) (known : List (List ℕ)) (ms ns : Members) (q : List ℕ) → is_known known q ≡ b → has_extra known ms ≡ false → has_extra known ns ≡ false
    → AllByRecursion (λ name. get_member name ms ≡ get_member name ns) known → get_member q ms ≡ get_member q ns
alike_at true known ms ns q is h i a = known_alike known ms ns q a is
alike_at false known ms ns q is h i a = lacks known q ms is h ∙ sym (lacks known q ns is i)

-- an object that has the names of a row and no other, and the row's value under each, is the row
pub row_is : (known : List (List ℕ)) (ms ns : Members) → MembersAreCanonical ms → IsOrdered ns → has_extra known ms ≡ false → has_extra known ns ≡ false
    → AllByRecursion (λ name. get_member name ms ≡ get_member name ns) known → ms ≡ ns
row_is known ms ns c o h i a = same_members ms ns (ordered ms c) o (λ q. alike_at (is_known known q) known ms ns q refl h i a)

-- ---- what a member has from its object

canonical_at : (o : Ordering) (d e : Data) (rest : Option Data) → IsCanonical e → (rest ≡ Some d → IsCanonical d) → match_ordering o rest (Some e) rest ≡ Some d → IsCanonical d
canonical_at Less d e rest c later h = later h
canonical_at Equal d e rest c later h = let same : e ≡ d = cc in subst IsCanonical same c
canonical_at Greater d e rest c later h = later h

pub canonical_member : (name : List ℕ) (ms : Members) (d : Data) → MembersAreCanonical ms → get_member name ms ≡ Some d → IsCanonical d
canonical_member name no_members d c h = absurd (cc)
canonical_member name (member l e ms) d c h = canonical_at (order name l) d e (get_member name ms) c.1 (canonical_member name ms d c.2) h

float_free_at : (o : Ordering) (d e : Data) (rest : Option Data) → has_float e ≡ false → (rest ≡ Some d → has_float d ≡ false) → match_ordering o rest (Some e) rest ≡ Some d → has_float d ≡ false
float_free_at Less d e rest c later h = later h
float_free_at Equal d e rest c later h = let same : e ≡ d = cc in subst (λ x. has_float x ≡ false) same c
float_free_at Greater d e rest c later h = later h

pub float_free_member : (name : List ℕ) (ms : Members) (d : Data) → members_have_float ms ≡ false → get_member name ms ≡ Some d → has_float d ≡ false
float_free_member name no_members d c h = absurd (cc)
float_free_member name (member l e ms) d c h =
    let both = or_parts (has_float e) (members_have_float ms) c in
    float_free_at (order name l) d e (get_member name ms) both.0 (float_free_member name ms d both.1) h
