-- How an old value is patched, member by member.
use Rattle.std.proofs.Common.{◌≡◌, ℕ, List, [], ◌∷◌, Bool, true, false, cond, Some, None, string_bytes, refl, sym, ap, ◌∙◌}
use Rattle.std.specs.List.Sorted.{IsStrictlySortedBy}
use Rattle.std.specs.Map.{keys_of}
use Rattle.std.specs.String.{string_cmp}
use Rattle.serde_json.specs.Data.{Data, null, boolean, number, string, array, object, Items, Members, no_members, member, put}
use Rattle.serde_json.specs.Find.{as_array, as_object, as_str}
use Rattle.serde_json.specs.View.{view, members_view}
use Rattle.serde_json.proofs.Views.{Entry}
use Rattle.json_tree.specs.Canonical.{AreAbove, IsOrdered}
use Rattle.json_tree.specs.Names.{is_known}
use Rattle.player_sight.specs.Change.{members_in, text_before, texts_from, texts_in, without, with_members, patched}
use Rattle.player_sight.proofs.Changes.{in_order, join, one_put, join_none}

-- ---- objects, lists, texts and others

pub no_object : (old gone d : Data) → as_object d ≡ None → patched old gone d ≡ d
no_object old gone null e = refl
no_object old gone (boolean b) e = refl
no_object old gone (number n) e = refl
no_object old gone (string s) e = refl
no_object old gone (array ds) e = refl
no_object old gone (object ms) e = absurd (cc)

pub an_object : (old gone d : Data) (ms : Members) → as_object d ≡ Some ms → patched old gone d ≡ object (with_members (without (texts_in gone) (members_in old)) ms)
an_object old gone null ms e = absurd (cc)
an_object old gone (boolean b) ms e = absurd (cc)
an_object old gone (number n) ms e = absurd (cc)
an_object old gone (string s) ms e = absurd (cc)
an_object old gone (array ds) ms e = absurd (cc)
an_object old gone (object es) ms e = let same : es ≡ ms = cc in ap (λ x. object (with_members (without (texts_in gone) (members_in old)) x)) same

pub of_object : (d : Data) (ms : Members) → as_object d ≡ Some ms → members_in d ≡ ms
of_object null ms e = absurd (cc)
of_object (boolean b) ms e = absurd (cc)
of_object (number n) ms e = absurd (cc)
of_object (string s) ms e = absurd (cc)
of_object (array ds) ms e = absurd (cc)
of_object (object es) ms e = cc

pub of_no_object : (d : Data) → as_object d ≡ None → members_in d ≡ no_members
of_no_object null e = refl
of_no_object (boolean b) e = refl
of_no_object (number n) e = refl
of_no_object (string s) e = refl
of_no_object (array ds) e = refl
of_no_object (object es) e = absurd (cc)

pub texts_of : (d : Data) (ds : Items) → as_array d ≡ Some ds → texts_in d ≡ texts_from ds
texts_of null ds e = absurd (cc)
texts_of (boolean b) ds e = absurd (cc)
texts_of (number n) ds e = absurd (cc)
texts_of (string s) ds e = absurd (cc)
texts_of (array es) ds e = let same : es ≡ ds = cc in ap texts_from same
texts_of (object ms) ds e = absurd (cc)

pub no_texts : (d : Data) → as_array d ≡ None → texts_in d ≡ []
no_texts null e = refl
no_texts (boolean b) e = refl
no_texts (number n) e = refl
no_texts (string s) e = refl
no_texts (array es) e = absurd (cc)
no_texts (object ms) e = refl

pub text_first : (d : Data) (s : List ℕ) (rest : List (List ℕ)) → as_str d ≡ Some s → text_before d rest ≡ s ∷ rest
text_first null s rest e = absurd (cc)
text_first (boolean b) s rest e = absurd (cc)
text_first (number n) s rest e = absurd (cc)
text_first (string t) s rest e = let same : t ≡ s = cc in ap (λ x. x ∷ rest) same
text_first (array ds) s rest e = absurd (cc)
text_first (object ms) s rest e = absurd (cc)

pub no_text_first : (d : Data) (rest : List (List ℕ)) → as_str d ≡ None → text_before d rest ≡ rest
no_text_first null rest e = refl
no_text_first (boolean b) rest e = refl
no_text_first (number n) rest e = refl
no_text_first (string t) rest e = absurd (cc)
no_text_first (array ds) rest e = refl
no_text_first (object ms) rest e = refl

-- ---- the members that stay

pub above_without : (low : List ℕ) (names : List (List ℕ)) (ms : Members) → AreAbove low ms → AreAbove low (without names ms)
above_without low names no_members h = tt
above_without low names (member k d ms) h = either (is_known names k) (above_without low names ms h.1)
  where
    either : (b : Bool) → AreAbove low (without names ms) → AreAbove low (cond b (without names ms) (member k d (without names ms)))
    either true later = later
    either false later = (h.0, later)

ordered_without : (names : List (List ℕ)) (ms : Members) → IsOrdered ms → IsOrdered (without names ms)
ordered_without names no_members h = tt
ordered_without names (member k d ms) h = either (is_known names k) (ordered_without names ms h.1)
  where
    either : (b : Bool) → IsOrdered (without names ms) → IsOrdered (cond b (without names ms) (member k d (without names ms)))
    either true later = later
    either false later = (above_without k names ms h.0, later)

pub keep_next : (names : List (List ℕ)) (e : Entry) (k : List ℕ) (here rest all : List Entry) (out next : Members) → k ≡ string_bytes e.0 → here ≡ e ∷ rest
    → IsStrictlySortedBy string_cmp (keys_of all) → next ≡ cond (is_known names k) out (put k (view e.1) out)
    → join out (without names (members_view here)) ≡ without names (members_view all) → join next (without names (members_view rest)) ≡ without names (members_view all)
keep_next names e k here rest all out next named steps sorted is_put is =
    one_put (is_known names (string_bytes e.0)) (string_bytes e.0) (view e.1) out next (without names (members_view rest)) (without names (members_view all))
    (ordered_without names (members_view all) (in_order all sorted))
    (is_put ∙ ap (λ n. cond (is_known names n) out (put n (view e.1) out)) named)
    (ap (λ x. join out (without names (members_view x))) (sym steps) ∙ is)

pub all_kept : (names : List (List ℕ)) (here all : List Entry) (out : Members) → here ≡ [] → join out (without names (members_view here)) ≡ without names (members_view all) → out ≡ without names (members_view all)
all_kept names here all out none is = sym (join_none out) ∙ ap (λ x. join out (without names (members_view x))) (sym none) ∙ is
