-- What a change leads to is the new value, but that a member of the same text is the old one's.
use Rattle.std.proofs.Common.{◌≡◌, ℕ, ◌≤◌, List, [], ◌∷◌, map, Bool, true, false, not, cond, ◌&&◌, ◌⊎◌, inl, inr, Option, Some, None, Ordering, Less, Equal, Greater, is_some, bytes_eq, refl, sym, ap, ◌∙◌, subst, arith}
use Rattle.std.proofs.lemmas.Cmp.{nat_list_cmp_total, tied_itself}
use Rattle.std.proofs.lemmas.Slice.Eq.{bytes_eq-Decides}
use Rattle.std.specs.Ordering.{match_ordering}
use Rattle.serde_json.specs.Data.{Data, null, boolean, number, string, array, object, Members, no_members, member, put, depth, members_depth}
use Rattle.serde_json.specs.Find.{get, get_member}
use Rattle.serde_json.specs.Read.{read, max_depth}
use Rattle.serde_json.specs.View.{items_of}
use Rattle.serde_json.specs.Written.{compact_text, members_text}
use Rattle.serde_json.proofs.Views.{get_member-put, get_member-put_other}
use Rattle.json_tree.specs.Canonical.{AreAbove, IsOrdered, IsCanonical, MembersAreCanonical}
use Rattle.json_tree.specs.Names.{is_known}
use Rattle.json_tree.specs.Writable.{IsWritable, MembersAreWritable}
use Rattle.json_tree.proofs.Canonicals.{order, canonical_put}
use Rattle.json_tree.proofs.Rows.{name_is, same_members, ordered}
use Rattle.player_sight.proofs.Changes.{above_changed}
use Rattle.sight_reading.proofs.Patches.{above_without}
use Rattle.player_sight.specs.Change.{has_text_of, changed_members, lost_names, put_part, members_in, gone_part, texts_from, texts_in, without, with_members, patched}

-- ---- what stands under a name

here : (k : List ℕ) (d : Data) (ms : Members) → get_member k (member k d ms) ≡ Some d
here k d ms = let same : order k k ≡ Equal = tied_itself nat_list_cmp_total k in rw same refl

absent : (k : List ℕ) (ms : Members) → AreAbove k ms → get_member k ms ≡ None
absent k no_members h = refl
absent k (member l e ms) h = rw (h.0) (absent k ms h.1)

-- a name that isn't the first is looked up in the rest
record IsOther (q k : List ℕ) : Type 0 where
  apart : q ≡ k → ⊥
  differs : bytes_eq q k ≡ false
  skips : (d : Data) (ms : Members) → get_member q (member k d ms) ≡ get_member q ms

passes : (o : Ordering) (q k : List ℕ) (d : Data) (rest : Option Data) → order q k ≡ o → (q ≡ k → ⊥) → match_ordering o rest (Some d) rest ≡ rest
passes Less q k d rest is apart = refl
passes Equal q k d rest is apart = absurd (apart (name_is q k is))
passes Greater q k d rest is apart = refl

same_or_other : (q k : List ℕ) → (q ≡ k) ⊎ IsOther q k
same_or_other q k = by_test (bytes_eq q k) refl
  where
    by_test : (b : Bool) → bytes_eq q k ≡ b → (q ≡ k) ⊎ IsOther q k
    by_test true e = inl ((bytes_eq-Decides q k).0 e)
    by_test false e =
        let apart : q ≡ k → ⊥ = λ same. let yes = (bytes_eq-Decides q k).1 same in absurd (cc (yes, e)) in
        inr (record { apart = apart; differs = e; skips = λ d ms. passes (order q k) q k d (get_member q ms) refl apart })

-- ---- the parts of a change, name by name

texts_back : (names : List (List ℕ)) → texts_from (items_of (map string names)) ≡ names
texts_back [] = refl
texts_back (name ∷ names) = ap (λ rest. name ∷ rest) (texts_back names)

get_in : (q : List ℕ) (d : Data) → get q d ≡ get_member q (members_in d)
get_in q null = refl
get_in q (boolean b) = refl
get_in q (number n) = refl
get_in q (string s) = refl
get_in q (array ds) = refl
get_in q (object ms) = refl

abbrev changed_at : Data → List ℕ → Option Data → Option Data
changed_at old q None = None
changed_at old q (Some d) = cond (has_text_of d (get q old)) None (Some d)

get_changed : (old : Data) (q : List ℕ) (ms : Members) → MembersAreCanonical ms → get_member q (changed_members old ms) ≡ changed_at old q (get_member q ms)
get_changed old q no_members c = refl
get_changed old q (member k d ms) c = elim (same_or_other q k) [
  | inl e ↦ subst (λ n. get_member n (changed_members old (member k d ms)) ≡ changed_at old n (get_member n (member k d ms))) (sym e) (at_first (has_text_of d (get k old)) refl (get_changed old k ms c.2))
  | inr other ↦ at_other other (has_text_of d (get k old)) (get_changed old q ms c.2) ∙ ap (changed_at old q) (sym (other.skips d ms))
]
  where
    at_first : (b : Bool) → has_text_of d (get k old) ≡ b → get_member k (changed_members old ms) ≡ changed_at old k (get_member k ms)
        → get_member k (cond b (changed_members old ms) (member k d (changed_members old ms))) ≡ changed_at old k (get_member k (member k d ms))
    at_first true is later = later ∙ ap (changed_at old k) (absent k ms c.0) ∙ sym (ap (changed_at old k) (here k d ms) ∙ rw is refl)
    at_first false is later = here k d (changed_members old ms) ∙ sym (ap (changed_at old k) (here k d ms) ∙ rw is refl)

    at_other : IsOther q k → (b : Bool) → get_member q (changed_members old ms) ≡ changed_at old q (get_member q ms)
        → get_member q (cond b (changed_members old ms) (member k d (changed_members old ms))) ≡ changed_at old q (get_member q ms)
    at_other other true later = later
    at_other other false later = other.skips d (changed_members old ms) ∙ later

get_without : (names : List (List ℕ)) (q : List ℕ) (ms : Members) → get_member q (without names ms) ≡ cond (is_known names q) None (get_member q ms)
get_without names q no_members = never (is_known names q) None refl
  where
    never : (b : Bool) (o : Option Data) → o ≡ None → o ≡ cond b None o
    never true o e = e
    never false o e = refl
get_without names q (member k d ms) = elim (same_or_other q k) [
  | inl e ↦ subst (λ n. get_member n (without names (member k d ms)) ≡ cond (is_known names n) None (get_member n (member k d ms))) (sym e) (at_first (is_known names k) refl (get_without names k ms))
  | inr other ↦ at_other other (is_known names k) (get_without names q ms) ∙ ap (cond (is_known names q) None) (sym (other.skips d ms))
]
  where
    at_first : (b : Bool) → is_known names k ≡ b → get_member k (without names ms) ≡ cond (is_known names k) None (get_member k ms)
        → get_member k (cond b (without names ms) (member k d (without names ms))) ≡ cond b None (get_member k (member k d ms))
    at_first true is later = later ∙ rw is refl
    at_first false is later = here k d (without names ms) ∙ sym (here k d ms)

    at_other : IsOther q k → (b : Bool) → get_member q (without names ms) ≡ cond (is_known names q) None (get_member q ms)
        → get_member q (cond b (without names ms) (member k d (without names ms))) ≡ cond (is_known names q) None (get_member q ms)
    at_other other true later = later
    at_other other false later = other.skips d (without names ms) ∙ later

known_lost : (new : Data) (q : List ℕ) (ms : Members) → is_known (lost_names ms new) q ≡ (is_some (get_member q ms) && not (is_some (get q new)))
known_lost new q no_members = refl
known_lost new q (member k d ms) = elim (same_or_other q k) [
  | inl e ↦ subst (λ n. is_known (lost_names (member k d ms) new) n ≡ (is_some (get_member n (member k d ms)) && not (is_some (get n new)))) (sym e)
      (at_first (is_some (get k new)) refl (known_lost new k ms) ∙ ap (λ o. is_some o && not (is_some (get k new))) (sym (here k d ms)))
  | inr other ↦ at_other other (is_some (get k new)) (known_lost new q ms) ∙ ap (λ o. is_some o && not (is_some (get q new))) (sym (other.skips d ms))
]
  where
    itself : bytes_eq k k ≡ true
    itself = (bytes_eq-Decides k k).1 refl

    no_more : (a b : Bool) → b ≡ true → (a && not b) ≡ false
    no_more true b e = rw e refl
    no_more false b e = refl

    at_first : (b : Bool) → is_some (get k new) ≡ b → is_known (lost_names ms new) k ≡ (is_some (get_member k ms) && not (is_some (get k new)))
        → is_known (cond b (lost_names ms new) (k ∷ lost_names ms new)) k ≡ (true && not (is_some (get k new)))
    at_first true is later = later ∙ no_more (is_some (get_member k ms)) (is_some (get k new)) is ∙ rw is refl
    at_first false is later = rw (itself, is) refl

    at_other : IsOther q k → (b : Bool) → is_known (lost_names ms new) q ≡ (is_some (get_member q ms) && not (is_some (get q new)))
        → is_known (cond b (lost_names ms new) (k ∷ lost_names ms new)) q ≡ (is_some (get_member q ms) && not (is_some (get q new)))
    at_other other true later = later
    at_other other false later = rw (other.differs) later

-- ---- canonical again

canonical_changed : (old : Data) (ms : Members) → MembersAreCanonical ms → MembersAreCanonical (changed_members old ms)
canonical_changed old no_members c = tt
canonical_changed old (member k d ms) c = either (has_text_of d (get k old)) (canonical_changed old ms c.2)
  where
    either : (b : Bool) → MembersAreCanonical (changed_members old ms) → MembersAreCanonical (cond b (changed_members old ms) (member k d (changed_members old ms)))
    either true later = later
    either false later = (above_changed k old ms c.0, c.1, later)

canonical_without : (names : List (List ℕ)) (ms : Members) → MembersAreCanonical ms → MembersAreCanonical (without names ms)
canonical_without names no_members c = tt
canonical_without names (member k d ms) c = either (is_known names k) (canonical_without names ms c.2)
  where
    either : (b : Bool) → MembersAreCanonical (without names ms) → MembersAreCanonical (cond b (without names ms) (member k d (without names ms)))
    either true later = later
    either false later = (above_without k names ms c.0, c.1, later)

canonical_with : (ms more : Members) → MembersAreCanonical ms → MembersAreCanonical more → MembersAreCanonical (with_members ms more)
canonical_with ms no_members c h = c
canonical_with ms (member k d more) c h = canonical_with (put k d ms) more (canonical_put k d ms h.1 c) h.2

-- the first of two that is there
abbrev first_of : Option Data → Option Data → Option Data
first_of None o = o
first_of (Some d) o = Some d

get_with : (q : List ℕ) (ms more : Members) → MembersAreCanonical more → get_member q (with_members ms more) ≡ first_of (get_member q more) (get_member q ms)
get_with q ms no_members c = refl
get_with q ms (member k d more) c = elim (same_or_other q k) [
  | inl e ↦ subst (λ n. get_member n (with_members (put k d ms) more) ≡ first_of (get_member n (member k d more)) (get_member n ms)) (sym e)
      (get_with k (put k d ms) more c.2 ∙ rw (absent k more c.0) (get_member-put k d ms) ∙ ap (λ o. first_of o (get_member k ms)) (sym (here k d more)))
  | inr other ↦ get_with q (put k d ms) more c.2 ∙ ap (first_of (get_member q more)) (get_member-put_other q k d ms other.apart) ∙ ap (λ o. first_of o (get_member q ms)) (sym (other.skips d more))
]

-- ---- the new members, each with the old value where that has the same text

kept_value : Data → Option Data → Data
kept_value d None = d
kept_value d (Some found) = cond (bytes_eq (compact_text found) (compact_text d)) found d

kept : Data → Members → Members
kept old no_members = no_members
kept old (member k d ms) = member k (kept_value d (get k old)) (kept old ms)

kept_at : Data → List ℕ → Option Data → Option Data
kept_at old q None = None
kept_at old q (Some d) = Some (kept_value d (get q old))

get_kept : (old : Data) (q : List ℕ) (ms : Members) → get_member q (kept old ms) ≡ kept_at old q (get_member q ms)
unfolding kept kept_at
get_kept old q no_members = refl
get_kept old q (member k d ms) = elim (same_or_other q k) [
  | inl e ↦ subst (λ n. get_member n (kept old (member k d ms)) ≡ kept_at old n (get_member n (member k d ms))) (sym e)
      (here k (kept_value d (get k old)) (kept old ms) ∙ ap (kept_at old k) (sym (here k d ms)))
  | inr other ↦ other.skips (kept_value d (get k old)) (kept old ms) ∙ get_kept old q ms ∙ ap (kept_at old q) (sym (other.skips d ms))
]

at_name : (old : Data) (q : List ℕ) (o n : Option Data) → get q old ≡ o → first_of (changed_at old q n) (cond (is_some o && not (is_some n)) None o) ≡ kept_at old q n
unfolding kept_at kept_value
at_name old q None None is = refl
at_name old q (Some e) None is = refl
at_name old q None (Some d) is = rw is refl
at_name old q (Some e) (Some d) is = rw is (by_text (bytes_eq (compact_text e) (compact_text d)))
  where
    by_text : (b : Bool) → first_of (cond b None (Some d)) (Some e) ≡ Some (cond b e d)
    by_text true = refl
    by_text false = refl

alike : (old : Data) (q : List ℕ) (ms : Members) → MembersAreCanonical ms
    → get_member q (with_members (without (lost_names (members_in old) (object ms)) (members_in old)) (changed_members old ms)) ≡ get_member q (kept old ms)
alike old q ms c =
    get_with q (without (lost_names (members_in old) (object ms)) (members_in old)) (changed_members old ms) (canonical_changed old ms c)
    ∙ rw (get_changed old q ms c, get_without (lost_names (members_in old) (object ms)) q (members_in old), known_lost (object ms) q (members_in old), sym (get_in q old)) (at_name old q (get q old) (get_member q ms) refl)
    ∙ sym (get_kept old q ms)

above_kept : (low : List ℕ) (old : Data) (ms : Members) → AreAbove low ms → AreAbove low (kept old ms)
unfolding kept
above_kept low old no_members h = tt
above_kept low old (member k d ms) h = (h.0, above_kept low old ms h.1)

ordered_kept : (old : Data) (ms : Members) → MembersAreCanonical ms → IsOrdered (kept old ms)
unfolding kept
ordered_kept old no_members c = tt
ordered_kept old (member k d ms) c = (above_kept k old ms c.0, ordered_kept old ms c.2)

members_are_kept : (old : Data) (ms : Members) → MembersAreCanonical (members_in old) → MembersAreCanonical ms
    → with_members (without (texts_in (gone_part old (object ms))) (members_in old)) (changed_members old ms) ≡ kept old ms
members_are_kept old ms a b =
    let names = lost_names (members_in old) (object ms) in
    ap (λ gone. with_members (without gone (members_in old)) (changed_members old ms)) (texts_back names)
    ∙ (same_members (with_members (without names (members_in old)) (changed_members old ms)) (kept old ms)
    (ordered _ (canonical_with (without names (members_in old)) (changed_members old ms) (canonical_without names (members_in old) a) (canonical_changed old ms b)))
    (ordered_kept old ms b) (λ q. alike old q ms b))

canonical_in : (d : Data) → IsCanonical d → MembersAreCanonical (members_in d)
canonical_in null c = tt
canonical_in (boolean b) c = tt
canonical_in (number n) c = tt
canonical_in (string s) c = tt
canonical_in (array ds) c = tt
canonical_in (object ms) c = c

-- ---- the same text

same_value_text : (d : Data) (o : Option Data) → compact_text (kept_value d o) ≡ compact_text d
unfolding kept_value
same_value_text d None = refl
same_value_text d (Some found) = by_text (bytes_eq (compact_text found) (compact_text d)) refl
  where
    by_text : (b : Bool) → bytes_eq (compact_text found) (compact_text d) ≡ b → compact_text (cond b found d) ≡ compact_text d
    by_text true e = (bytes_eq-Decides (compact_text found) (compact_text d)).0 e
    by_text false e = refl

same_members_text : (later : Bool) (old : Data) (ms : Members) → members_text later (kept old ms) ≡ members_text later ms
unfolding kept
same_members_text later old no_members = refl
same_members_text later old (member k d ms) = rw (same_value_text d (get k old), same_members_text true old ms) refl

pub has_new_text : (old new : Data) → IsCanonical old → IsCanonical new → compact_text (patched old (gone_part old new) (put_part old new)) ≡ compact_text new
has_new_text old null a b = refl
has_new_text old (boolean x) a b = refl
has_new_text old (number n) a b = refl
has_new_text old (string s) a b = refl
has_new_text old (array ds) a b = refl
has_new_text old (object ms) a b = ap (λ x. compact_text (object x)) (members_are_kept old ms (canonical_in old a) b) ∙ ap (λ x. 123 ∷ x) (same_members_text false old ms)

-- ---- the same value, where texts tell values apart

abbrev IsTold : Data → Type 0
IsTold d = IsWritable d × (depth d ≤ max_depth)

told_apart : (d e : Data) → ((x : Data) → IsWritable x → depth x ≤ max_depth → read (compact_text x) ≡ Some x) → IsTold d → IsTold e → compact_text e ≡ compact_text d → e ≡ d
told_apart d e reads a b same =
    let one = reads d a.0 a.1 in
    let two = reads e b.0 b.1 in
    let both : Some e ≡ Some d = sym two ∙ ap read same ∙ one in
    cc (both)

told_at : (o : Ordering) (d e : Data) (rest : Option Data) → IsTold e → (rest ≡ Some d → IsTold d) → match_ordering o rest (Some e) rest ≡ Some d → IsTold d
told_at Less d e rest c later h = later h
told_at Equal d e rest c later h = let same : e ≡ d = cc in subst IsTold same c
told_at Greater d e rest c later h = later h

told_member : (name : List ℕ) (ms : Members) (d : Data) → MembersAreWritable ms → members_depth ms ≤ max_depth → get_member name ms ≡ Some d → IsTold d
told_member name no_members d w h e = absurd (cc (e))
told_member name (member l x ms) d w h e =
    let first : depth x ≤ max_depth = omega (arith, h) in
    let others : members_depth ms ≤ max_depth = omega (arith, h) in
    told_at (order name l) d x (get_member name ms) (w.1, first) (told_member name ms d w.2 others) e

told_in : (name : List ℕ) (old d : Data) → IsWritable old → depth old ≤ max_depth → get name old ≡ Some d → IsTold d
told_in name null d w h e = absurd (cc (e))
told_in name (boolean b) d w h e = absurd (cc (e))
told_in name (number n) d w h e = absurd (cc (e))
told_in name (string s) d w h e = absurd (cc (e))
told_in name (array ds) d w h e = absurd (cc (e))
told_in name (object ms) d w h e = told_member name ms d w (omega (arith, h)) e

same_value : (d : Data) (o : Option Data) → ((x : Data) → IsWritable x → depth x ≤ max_depth → read (compact_text x) ≡ Some x) → IsTold d → ((e : Data) → o ≡ Some e → IsTold e) → kept_value d o ≡ d
unfolding kept_value
same_value d None reads a b = refl
same_value d (Some found) reads a b = by_text (bytes_eq (compact_text found) (compact_text d)) refl
  where
    by_text : (t : Bool) → bytes_eq (compact_text found) (compact_text d) ≡ t → cond t found d ≡ d
    by_text true e = told_apart d found reads a (b found refl) ((bytes_eq-Decides (compact_text found) (compact_text d)).0 e)
    by_text false e = refl

all_same : (old : Data) (ms : Members) → ((x : Data) → IsWritable x → depth x ≤ max_depth → read (compact_text x) ≡ Some x) → IsWritable old → depth old ≤ max_depth
    → MembersAreWritable ms → members_depth ms ≤ max_depth → kept old ms ≡ ms
unfolding kept
all_same old no_members reads w h v i = refl
all_same old (member k d ms) reads w h v i =
    let first : depth d ≤ max_depth = omega (arith, i) in
    let others : members_depth ms ≤ max_depth = omega (arith, i) in
    rw (same_value d (get k old) reads (v.1, first) (λ e is. told_in k old e w h is), all_same old ms reads w h v.2 others) refl

pub is_new : (old new : Data) → ((x : Data) → IsWritable x → depth x ≤ max_depth → read (compact_text x) ≡ Some x) → IsCanonical old → IsCanonical new
    → IsWritable old → IsWritable new → depth old ≤ max_depth → depth new ≤ max_depth → patched old (gone_part old new) (put_part old new) ≡ new
is_new old null reads a b w v h i = refl
is_new old (boolean x) reads a b w v h i = refl
is_new old (number n) reads a b w v h i = refl
is_new old (string s) reads a b w v h i = refl
is_new old (array ds) reads a b w v h i = refl
is_new old (object ms) reads a b w v h i = ap object (members_are_kept old ms (canonical_in old a) b ∙ all_same old ms reads w h v (omega (arith, i)))
