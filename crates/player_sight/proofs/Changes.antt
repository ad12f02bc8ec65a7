-- Where the parts of a change come from, member by member.
use Rattle.std.proofs.Common.{◌≡◌, ℕ, List, [], ◌∷◌, ◌++◌, map, Bool, true, false, cond, Some, None, Less, Greater, is_some, string_bytes, bytes_eq, refl, sym, ap, ◌∙◌, subst}
use Rattle.std.proofs.lemmas.Bool.{or_parts}
use Rattle.std.proofs.lemmas.List.{append_assoc}
use Rattle.std.proofs.lemmas.Slice.Eq.{bytes_eq-Decides}
use Rattle.std.proofs.lemmas.Cmp.{nat_list_cmp_total}
use Rattle.std.specs.Ordering.{ordering_reverse}
use Rattle.std.specs.List.{AllByRecursion}
use Rattle.std.specs.List.Sorted.{IsStrictlySortedBy}
use Rattle.std.specs.Map.{keys_of}
use Rattle.std.specs.String.{string_cmp}
use Rattle.serde_json.specs.Data.{unsigned, negative, float, Data, null, boolean, number, string, array, object, Members, no_members, member, put}
use Rattle.serde_json.specs.Find.{get, as_bool, as_null, as_number, as_object, as_str, as_u64}
use Rattle.serde_json.specs.View.{items_of, view, members_view}
use Rattle.serde_json.specs.Written.{compact_text, has_float, items_have_float, members_have_float}
use Rattle.serde_json.proofs.Views.{Entry}
use Rattle.json_tree.specs.Canonical.{AreAbove, IsOrdered}
use Rattle.json_tree.proofs.Canonicals.{order}
use Rattle.json_tree.proofs.Rows.{float_free_member}
use Rattle.player_sight.specs.Change.{has_text_of, changed_members, lost_names, put_part, members_in, gone_part}
use Rattle.std.specs.Prelude.{option_and_then}

-- ---- objects and others

pub no_object : (old new : Data) → as_object new ≡ None → put_part old new ≡ new
no_object old null e = refl
no_object old (boolean b) e = refl
no_object old (number n) e = refl
no_object old (string s) e = refl
no_object old (array ds) e = refl
no_object old (object ms) e = absurd (cc)

pub an_object : (old new : Data) (ms : Members) → as_object new ≡ Some ms → put_part old new ≡ object (changed_members old ms)
an_object old null ms e = absurd (cc)
an_object old (boolean b) ms e = absurd (cc)
an_object old (number n) ms e = absurd (cc)
an_object old (string s) ms e = absurd (cc)
an_object old (array ds) ms e = absurd (cc)
an_object old (object es) ms e = let same : es ≡ ms = cc in ap (λ x. object (changed_members old x)) same

-- ---- no floats

pub float_free_in : (name : List ℕ) (d found : Data) → has_float d ≡ false → get name d ≡ Some found → has_float found ≡ false
float_free_in name null found c e = absurd (cc)
float_free_in name (boolean b) found c e = absurd (cc)
float_free_in name (number n) found c e = absurd (cc)
float_free_in name (string s) found c e = absurd (cc)
float_free_in name (array ds) found c e = absurd (cc)
float_free_in name (object ms) found c e = float_free_member name ms found c e

-- ---- plainly equal

pub same_text : (a b : Data) → a ≡ b → true ≡ bytes_eq (compact_text a) (compact_text b)
same_text a b e = sym ((bytes_eq-Decides (compact_text a) (compact_text b)).1 (ap compact_text e))

pub is_natural : (d : Data) (n : ℕ) → option_and_then as_u64 (as_number d) ≡ Some n → d ≡ number (unsigned n)
is_natural null n e = absurd (cc)
is_natural (boolean b) n e = absurd (cc)
is_natural (number (unsigned m)) n e = let same : m ≡ n = cc in ap (λ x. number (unsigned x)) same
is_natural (number (negative z)) n e = absurd (cc)
is_natural (number (float x)) n e = absurd (cc)
is_natural (string s) n e = absurd (cc)
is_natural (array ds) n e = absurd (cc)
is_natural (object ms) n e = absurd (cc)

pub is_text : (d : Data) (s : List ℕ) → as_str d ≡ Some s → d ≡ string s
is_text null s e = absurd (cc)
is_text (boolean b) s e = absurd (cc)
is_text (number n) s e = absurd (cc)
is_text (string t) s e = let same : t ≡ s = cc in ap string same
is_text (array ds) s e = absurd (cc)
is_text (object ms) s e = absurd (cc)

pub is_truth : (d : Data) (b : Bool) → as_bool d ≡ Some b → d ≡ boolean b
is_truth null b e = absurd (cc)
is_truth (boolean x) b e = let same : x ≡ b = cc in ap boolean same
is_truth (number n) b e = absurd (cc)
is_truth (string s) b e = absurd (cc)
is_truth (array ds) b e = absurd (cc)
is_truth (object ms) b e = absurd (cc)

pub is_nothing : (d : Data) → is_some (as_null d) ≡ true → d ≡ null
is_nothing null e = refl
is_nothing (boolean x) e = absurd (cc)
is_nothing (number n) e = absurd (cc)
is_nothing (string s) e = absurd (cc)
is_nothing (array ds) e = absurd (cc)
is_nothing (object ms) e = absurd (cc)

-- ---- members, one after another

-- the members of a map stand in order
pub in_order : (es : List Entry) → IsStrictlySortedBy string_cmp (keys_of es) → IsOrdered (members_view es)
unfolding IsStrictlySortedBy
in_order [] h = tt
in_order (e ∷ es) h = (above e es h.0, in_order es h.1)
  where
    above : (e : Entry) (es : List Entry) → AllByRecursion (λ y. string_cmp e.0 y ≡ Less) (keys_of es) → AreAbove (string_bytes e.0) (members_view es)
    above e [] h = tt
    above e (x ∷ es) h = (h.0, above e es h.1)

pub above_changed : (low : List ℕ) (old : Data) (ms : Members) → AreAbove low ms → AreAbove low (changed_members old ms)
above_changed low old no_members h = tt
above_changed low old (member k d ms) h = either (has_text_of d (get k old)) (above_changed low old ms h.1)
  where
    either : (b : Bool) → AreAbove low (changed_members old ms) → AreAbove low (cond b (changed_members old ms) (member k d (changed_members old ms)))
    either true later = later
    either false later = (h.0, later)

pub ordered_changed : (old : Data) (ms : Members) → IsOrdered ms → IsOrdered (changed_members old ms)
ordered_changed old no_members h = tt
ordered_changed old (member k d ms) h = either (has_text_of d (get k old)) (ordered_changed old ms h.1)
  where
    either : (b : Bool) → IsOrdered (changed_members old ms) → IsOrdered (cond b (changed_members old ms) (member k d (changed_members old ms)))
    either true later = later
    either false later = (above_changed k old ms h.0, later)

-- one list of members behind another
abbrev pub join : Members → Members → Members
join no_members ns = ns
join (member k d ms) ns = member k d (join ms ns)

pub join_one : (ms : Members) (k : List ℕ) (d : Data) (ns : Members) → join (join ms (member k d no_members)) ns ≡ join ms (member k d ns)
join_one no_members k d ns = refl
join_one (member l e ms) k d ns = ap (member l e) (join_one ms k d ns)

pub join_none : (ms : Members) → join ms no_members ≡ ms
join_none no_members = refl
join_none (member k d ms) = ap (member k d) (join_none ms)

below_joined : (l k : List ℕ) (d : Data) (ms ns : Members) → AreAbove l (join ms (member k d ns)) → order l k ≡ Less
below_joined l k d no_members ns h = h.0
below_joined l k d (member m e ms) ns h = below_joined l k d ms ns h.1

-- a member above all goes last
pub put_last : (k : List ℕ) (d : Data) (ms ns : Members) → IsOrdered (join ms (member k d ns)) → put k d ms ≡ join ms (member k d no_members)
put_last k d no_members ns h = refl
put_last k d (member l e ms) ns h =
    let less = below_joined l k d ms ns h.0 in
    let is : order k l ≡ Greater = nat_list_cmp_total.antisymm k l ∙ ap ordering_reverse less in
    rw is (ap (member l e) (put_last k d ms ns h.1))

-- what is put so far, and what is to come, stay the whole as the next is put or passed over
pub one_put : (b : Bool) (k : List ℕ) (d : Data) (out next rest whole : Members) → IsOrdered whole → next ≡ cond b out (put k d out)
    → join out (cond b rest (member k d rest)) ≡ whole → join next rest ≡ whole
one_put true k d out next rest whole o e is = rw e is
one_put false k d out next rest whole o e is =
    let last = put_last k d out rest (subst IsOrdered (sym is) o) in
    ap (λ x. join x rest) (e ∙ last) ∙ join_one out k d rest ∙ is

pub one_lost : (b : Bool) (k : List ℕ) (out next : List Data) (rest : List (List ℕ)) (whole : List Data) → next ≡ cond b out (out ++ string k ∷ [])
    → out ++ map string (cond b rest (k ∷ rest)) ≡ whole → next ++ map string rest ≡ whole
one_lost true k out next rest whole e is = rw e is
one_lost false k out next rest whole e is = rw e (append_assoc out (string k ∷ []) (map string rest) ∙ is)

-- ---- the parts have no float

pub float_free_changed : (old : Data) (ms : Members) → members_have_float ms ≡ false → members_have_float (changed_members old ms) ≡ false
float_free_changed old no_members h = refl
float_free_changed old (member k d ms) h =
    let both = or_parts (has_float d) (members_have_float ms) h in
    either (has_text_of d (get k old)) (both.0) (float_free_changed old ms both.1)
  where
    either : (b : Bool) → has_float d ≡ false → members_have_float (changed_members old ms) ≡ false → members_have_float (cond b (changed_members old ms) (member k d (changed_members old ms))) ≡ false
    either true first later = later
    either false first later = rw first later

pub put_float_free : (old new d : Data) → d ≡ put_part old new → has_float new ≡ false → has_float d ≡ false
put_float_free old null d e h = rw e h
put_float_free old (boolean b) d e h = rw e h
put_float_free old (number n) d e h = rw e h
put_float_free old (string s) d e h = rw e h
put_float_free old (array ds) d e h = rw e h
put_float_free old (object ms) d e h = rw e (float_free_changed old ms h)

no_texts : (names : List (List ℕ)) → items_have_float (items_of (map string names)) ≡ false
no_texts [] = refl
no_texts (name ∷ names) = no_texts names

pub gone_float_free : (old new d : Data) → d ≡ gone_part old new → has_float d ≡ false
gone_float_free old new d e = rw e (no_texts (lost_names (members_in old) new))

-- ---- the steps of the two loops

pub put_next : (old : Data) (e : Entry) (k : List ℕ) (here rest all : List Entry) (out next : Members) → k ≡ string_bytes e.0 → here ≡ e ∷ rest
    → IsStrictlySortedBy string_cmp (keys_of all) → next ≡ cond (has_text_of (view e.1) (get k old)) out (put k (view e.1) out)
    → join out (changed_members old (members_view here)) ≡ changed_members old (members_view all) → join next (changed_members old (members_view rest)) ≡ changed_members old (members_view all)
put_next old e k here rest all out next named steps sorted is_put is =
    one_put (has_text_of (view e.1) (get (string_bytes e.0) old)) (string_bytes e.0) (view e.1) out next (changed_members old (members_view rest)) (changed_members old (members_view all))
    (ordered_changed old (members_view all) (in_order all sorted))
    (is_put ∙ ap (λ n. cond (has_text_of (view e.1) (get n old)) out (put n (view e.1) out)) named)
    (ap (λ x. join out (changed_members old (members_view x))) (sym steps) ∙ is)

pub floats_next : (e : Entry) (here rest : List Entry) → here ≡ e ∷ rest → members_have_float (members_view here) ≡ false → members_have_float (members_view rest) ≡ false
floats_next e here rest steps h = (or_parts (has_float (view e.1)) (members_have_float (members_view rest)) (ap (λ x. members_have_float (members_view x)) (sym steps) ∙ h)).1

pub lost_next : (new : Data) (e : Entry) (k : List ℕ) (here rest : List Entry) (out next whole : List Data) → k ≡ string_bytes e.0 → here ≡ e ∷ rest
    → next ≡ cond (is_some (get k new)) out (out ++ string k ∷ []) → out ++ map string (lost_names (members_view here) new) ≡ whole → next ++ map string (lost_names (members_view rest) new) ≡ whole
lost_next new e k here rest out next whole named steps put is =
    one_lost (is_some (get (string_bytes e.0) new)) (string_bytes e.0) out next (lost_names (members_view rest) new) whole
    (put ∙ ap (λ n. cond (is_some (get n new)) out (out ++ string n ∷ [])) named)
    (ap (λ x. out ++ map string (lost_names (members_view x) new)) (sym steps) ∙ is)

pub all_put : (old : Data) (here all : List Entry) (out : Members) → here ≡ [] → join out (changed_members old (members_view here)) ≡ changed_members old (members_view all) → out ≡ changed_members old (members_view all)
all_put old here all out none is = sym (join_none out) ∙ ap (λ x. join out (changed_members old (members_view x))) (sym none) ∙ is
