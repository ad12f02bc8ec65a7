-- The proofs that what the parts of a state are written as may be written and reads back as them, and that nothing else reads so. No definition but laws of games cites them.
use Rattle.std.specs.Prelude.{◌≡◌, ℕ, ◌-◌, ◌^◌, ◌<◌, ◌≤◌, ◌&&◌, nat_le, Bool, true, false, if◌then◌else◌, IsTrue, IfSome, List, [], ◌∷◌, length, map, codes, is_some, option_and_then, option_map, Option, Some, None, refl}
use Rattle.std.specs.List.{AllByRecursion, list_all}
use Rattle.std.proofs.Common.{◌∙◌, ap, lit<, subst, sym}
use Rattle.std.proofs.Math.Nat.{le_trans, lt_of_le_of_lt}
use Rattle.std.proofs.lemmas.Bool.{and_parts, le-leb, leb-true}
use Rattle.std.proofs.lemmas.Str.{IsUtf8-from_is_utf8}
use Rattle.card_games.specs.Json.{apply, read_object, read_text}
use Rattle.card_games.specs.Parts.{first_of, is_count, list_value, lone_value, number_value, option_value, own_option, own_split, passing, read_count, read_items, read_list, read_lone, read_member, read_number, read_option, read_split, split_names, split_of, split_value, text_value}
use Rattle.game_sheet.specs.Short.{is_plain, is_short}
use Rattle.json_tree.specs.Canonical.{IsCanonical, IsOrdered, ItemsAreCanonical, MembersAreCanonical}
use Rattle.json_tree.specs.Names.{extra_in, has_extra}
use Rattle.json_tree.specs.Writable.{IsWritable, ItemsAreWritable}
use Rattle.json_tree.proofs.Rows.{canonical_member, row_is}
use Rattle.json_tree.proofs.WritableRows.{all_rise, fixed}
use Rattle.open_game.specs.Forms.{both}
use Rattle.secret_strip.specs.declared.split.Split.{Split}
use Rattle.serde_json.specs.Data.{Data, null, boolean, number, string, array, object, unsigned, negative, float, Items, no_items, item, Members, no_members, member}
use Rattle.serde_json.specs.Find.{as_null, get_member}
use Rattle.std.specs.Str.{is_utf8}
use Rattle.serde_json.specs.View.{items_of}

pub both_true : (a b : Bool) → a ≡ true → b ≡ true → (a && b) ≡ true
both_true a b p q = ap (λ x. x && b) p ∙ q

-- what was read is among the own parts, and canonical data is no more than it
abbrev pub IsReadFrom : {A : Type 0} → (A → Data) → (A → Bool) → Data → A → Type 0
IsReadFrom value own v x = IsTrue (own x) × (IsCanonical v → value x ≡ v)

-- the own parts may be written and read back from what they are written as, and all else that reads is written so
pub record IsPart {A : Type 0} (value : A → Data) (read : Data → Option A) (own : A → Bool) : Type 0 where
  pub back : (x : A) → IsTrue (own x) → read (value x) ≡ Some x
  pub from : (v : Data) → IfSome (read v) (IsReadFrom value own v)
  pub written : (x : A) → IsTrue (own x) → IsWritable (value x)

-- what was read is own, and is all of what it was read from
pub read_from : {A : Type 0} (value : A → Data) (read : Data → Option A) (own : A → Bool) → IsPart value read own → (v : Data) (x : A) → read v ≡ Some x → IsReadFrom value own v x
read_from value read own part v x is = subst (λ o. IfSome o (IsReadFrom value own v)) is (part.from v)

abbrev pub IsNeverNull : {A : Type 0} → (A → Data) → (A → Bool) → Type 0
IsNeverNull {A = A} value own = (x : A) → IsTrue (own x) → is_some (as_null (value x)) ≡ false

-- ---- options

mapped : {A B : Type 0} (P : A → Type 0) (Q : B → Type 0) (f : A → B) (o : Option A) → ((x : A) → P x → Q (f x)) → IfSome o P → IfSome (option_map f o) Q
mapped P Q f None more h = tt
mapped P Q f (Some x) more h = more x h

pub applied : {A B : Type 0} (P : A → Type 0) (Q : B → Type 0) (f : Option (A → B)) (o : Option A) → IfSome f (λ g. (x : A) → P x → Q (g x)) → IfSome o P → IfSome (apply f o) Q
applied P Q None o h k = tt
applied P Q (Some f) None h k = tt
applied P Q (Some f) (Some x) h k = h x k

pub both_read : {A B G : Type 0} (P : A → Type 0) (Q : B → Type 0) (R : G → Type 0) (make : A → B → G) (o : Option A) (p : Option B) → ((x : A) → P x → (y : B) → Q y → R (make x y)) → IfSome o P → IfSome p Q → IfSome (both make o p) R
both_read P Q R make None p more h k = tt
both_read P Q R make (Some x) None more h k = tt
both_read P Q R make (Some x) (Some y) more h k = more x h y k

passed : {A : Type 0} (P : A → Type 0) (test : A → Bool) (x : A) (passes : Bool) → test x ≡ passes → P x → IfSome (if passes then Some x else None) (λ y. (test y ≡ true) × P y)
passed P test x true is h = (is, h)
passed P test x false is h = tt

pub passing_from : {A : Type 0} (P : A → Type 0) (test : A → Bool) (o : Option A) → IfSome o P → IfSome (passing test o) (λ y. (test y ≡ true) × P y)
passing_from P test None h = tt
passing_from P test (Some x) h = passed P test x (test x) refl h

passing_back : {A : Type 0} (test : A → Bool) (x : A) → test x ≡ true → passing test (Some x) ≡ Some x
passing_back test x is = ap (λ passes. if passes then Some x else None) is

-- ---- numbers, options, lists

number_from : (most : ℕ) (v : Data) → IfSome (read_number most v) (IsReadFrom number_value (λ n. nat_le n most) v)
number_from most null = tt
number_from most (boolean b) = tt
number_from most (number (unsigned n)) = passed (λ m. IsCanonical (number (unsigned n)) → number_value m ≡ number (unsigned n)) (λ m. nat_le m most) n (nat_le n most) refl (λ _. refl)
number_from most (number (negative z)) = tt
number_from most (number (float x)) = tt
number_from most (string s) = tt
number_from most (array ds) = tt
number_from most (object ms) = tt

pub number_part : (most : ℕ) → most < 2 ^ 64 → IsPart number_value (read_number most) (λ n. nat_le n most)
number_part most small = record {
  back = λ n own. passing_back (λ m. nat_le m most) n own;
  from = number_from most;
  written = λ n own. lt_of_le_of_lt {n = n} {m = most} {k = 2 ^ 64} (leb-true n most own) small;
}

text_from : (v : Data) → IfSome (read_text v) (IsReadFrom text_value is_short v)
text_from null = tt
text_from (boolean b) = tt
text_from (number n) = tt
text_from (string s) = passed (λ text. IsCanonical (string s) → text_value text ≡ string s) is_short s (is_short s) refl (λ _. refl)
text_from (array ds) = tt
text_from (object ms) = tt

pub text_part : IsPart text_value read_text is_short
text_part = record {
  back = λ text own. passing_back is_short text own;
  from = text_from;
  written = λ text own. IsUtf8-from_is_utf8 text (and_parts (nat_le (length text) 64 && is_plain text) (is_utf8 text) own).1;
}

option_from : {A : Type 0} (value : A → Data) (read : Data → Option A) (own : A → Bool) → IsPart value read own → (v : Data) → IfSome (read_option read v) (IsReadFrom (option_value value) (own_option own) v)
option_from value read own part null = (refl, λ _. refl)
option_from value read own part (boolean b) = mapped _ (IsReadFrom (option_value value) (own_option own) (boolean b)) (λ x. Some x) (read (boolean b)) (λ x h. h) (part.from (boolean b))
option_from value read own part (number n) = mapped _ (IsReadFrom (option_value value) (own_option own) (number n)) (λ x. Some x) (read (number n)) (λ x h. h) (part.from (number n))
option_from value read own part (string s) = mapped _ (IsReadFrom (option_value value) (own_option own) (string s)) (λ x. Some x) (read (string s)) (λ x h. h) (part.from (string s))
option_from value read own part (array ds) = mapped _ (IsReadFrom (option_value value) (own_option own) (array ds)) (λ x. Some x) (read (array ds)) (λ x h. h) (part.from (array ds))
option_from value read own part (object ms) = mapped _ (IsReadFrom (option_value value) (own_option own) (object ms)) (λ x. Some x) (read (object ms)) (λ x h. h) (part.from (object ms))

option_back : {A : Type 0} (value : A → Data) (read : Data → Option A) (own : A → Bool) → IsPart value read own → IsNeverNull value own → (o : Option A) → IsTrue (own_option own o) → read_option read (option_value value o) ≡ Some o
option_back value read own part never None own_o = refl
option_back value read own part never (Some x) own_x =
    ap (λ nulls. if nulls then Some None else option_map (λ y. Some y) (read (value x))) (never x own_x) ∙ ap (option_map (λ y. Some y)) (part.back x own_x)

option_written : {A : Type 0} (value : A → Data) (read : Data → Option A) (own : A → Bool) → IsPart value read own → (o : Option A) → IsTrue (own_option own o) → IsWritable (option_value value o)
option_written value read own part None own_o = tt
option_written value read own part (Some x) own_x = part.written x own_x

pub option_part : {A : Type 0} (value : A → Data) (read : Data → Option A) (own : A → Bool) → IsPart value read own → IsNeverNull value own → IsPart (option_value value) (read_option read) (own_option own)
option_part value read own part never = record { back = option_back value read own part never; from = option_from value read own part; written = option_written value read own part }

abbrev AreReadFrom : {A : Type 0} → (A → Data) → (A → Bool) → Items → List A → Type 0
AreReadFrom value own ds xs = IsTrue (list_all own xs) × (ItemsAreCanonical ds → items_of (map value xs) ≡ ds)

first_from : {A : Type 0} (value : A → Data) (own : A → Bool) (d : Data) (ds : Items) (o : Option A) (rest : Option (List A)) → IfSome o (IsReadFrom value own d) → IfSome rest (AreReadFrom value own ds) → IfSome (first_of o rest) (AreReadFrom value own (item d ds))
first_from value own d ds None rest h k = tt
first_from value own d ds (Some x) None h k = tt
first_from value own d ds (Some x) (Some xs) h k = (both_true (own x) (list_all own xs) h.0 k.0, λ c. ap (λ e. item e (items_of (map value xs))) (h.1 c.0) ∙ ap (item d) (k.1 c.1))

items_from : {A : Type 0} (value : A → Data) (read : Data → Option A) (own : A → Bool) → IsPart value read own → (ds : Items) → IfSome (read_items read ds) (AreReadFrom value own ds)
items_from value read own part no_items = (refl, λ _. refl)
items_from value read own part (item d ds) = first_from value own d ds (read d) (read_items read ds) (part.from d) (items_from value read own part ds)

items_more : {A : Type 0} (value : A → Data) (own : A → Bool) (ds : Items) (o : Option (List A)) → IfSome o (AreReadFrom value own ds) → IfSome o (IsReadFrom (list_value value) (list_all own) (array ds))
items_more value own ds None h = tt
items_more value own ds (Some xs) h = (h.0, λ c. ap array (h.1 c))

list_from : {A : Type 0} (value : A → Data) (read : Data → Option A) (own : A → Bool) → IsPart value read own → (v : Data) → IfSome (read_list read v) (IsReadFrom (list_value value) (list_all own) v)
list_from value read own part null = tt
list_from value read own part (boolean b) = tt
list_from value read own part (number n) = tt
list_from value read own part (string s) = tt
list_from value read own part (array ds) = items_more value own ds (read_items read ds) (items_from value read own part ds)
list_from value read own part (object ms) = tt

list_back : {A : Type 0} (value : A → Data) (read : Data → Option A) (own : A → Bool) → IsPart value read own → (xs : List A) → IsTrue (list_all own xs) → read_list read (list_value value xs) ≡ Some xs
list_back value read own part [] own_all = refl
list_back value read own part (x ∷ xs) own_all =
    let parts = and_parts (own x) (list_all own xs) own_all in
    ap (λ o. first_of o (read_items read (items_of (map value xs)))) (part.back x parts.0) ∙ ap (first_of (Some x)) (list_back value read own part xs parts.1)

list_written : {A : Type 0} (value : A → Data) (read : Data → Option A) (own : A → Bool) → IsPart value read own → (xs : List A) → IsTrue (list_all own xs) → ItemsAreWritable (items_of (map value xs))
list_written value read own part [] own_all = tt
list_written value read own part (x ∷ xs) own_all = let parts = and_parts (own x) (list_all own xs) own_all in (part.written x parts.0, list_written value read own part xs parts.1)

pub list_part : {A : Type 0} (value : A → Data) (read : Data → Option A) (own : A → Bool) → IsPart value read own → IsPart (list_value value) (read_list read) (list_all own)
list_part value read own part = record { back = list_back value read own part; from = list_from value read own part; written = list_written value read own part }

pub count_part : IsPart number_value read_count is_count
count_part = number_part (2 ^ 32 - 1) (lit< tt)

pub counts_part : IsPart (list_value number_value) (read_list read_count) (list_all is_count)
counts_part = list_part number_value read_count is_count count_part

pub small_is_count : (n most : ℕ) → most ≤ 2 ^ 32 - 1 → nat_le n most ≡ true → IsTrue (is_count n)
small_is_count n most small is = le-leb n (2 ^ 32 - 1) (le_trans {n = n} {m = most} {k = 2 ^ 32 - 1} (leb-true n most is) small)

-- ---- objects

-- a member was read of an object
abbrev pub IsMemberFrom : {A : Type 0} → List ℕ → (A → Data) → (A → Bool) → Members → A → Type 0
IsMemberFrom name value own ms x = IsTrue (own x) × (MembersAreCanonical ms → get_member name ms ≡ Some (value x))

found_kept : {A : Type 0} (name : List ℕ) (value : A → Data) (own : A → Bool) (ms : Members) (d : Data) (o : Option A) → get_member name ms ≡ Some d → IfSome o (IsReadFrom value own d) → IfSome o (IsMemberFrom name value own ms)
found_kept name value own ms d None is h = tt
found_kept name value own ms d (Some x) is h = (h.0, λ c. is ∙ ap Some (sym (h.1 (canonical_member name ms d c is))))

found_from : {A : Type 0} (name : List ℕ) (value : A → Data) (read : Data → Option A) (own : A → Bool) → IsPart value read own → (ms : Members) (found : Option Data) → get_member name ms ≡ found → IfSome (option_and_then read found) (IsMemberFrom name value own ms)
found_from name value read own part ms None is = tt
found_from name value read own part ms (Some d) is = found_kept name value own ms d (read d) is (part.from d)

pub member_from : {A : Type 0} (name : List ℕ) (value : A → Data) (read : Data → Option A) (own : A → Bool) → IsPart value read own → (ms : Members) → IfSome (read_member name read (object ms)) (IsMemberFrom name value own ms)
member_from name value read own part ms = found_from name value read own part ms (get_member name ms) refl

-- what is read of members that have each name is written as members with these names in order
pub record IsRow {A : Type 0} (names : List (List ℕ)) (members : A → Members) (pick : Data → Option A) (own : A → Bool) : Type 0 where
  pub ordered : (x : A) → IsOrdered (members x)
  pub no_more : (x : A) → has_extra names (members x) ≡ false
  pub back : (x : A) → IsTrue (own x) → pick (object (members x)) ≡ Some x
  pub from : (ms : Members) → IfSome (pick (object ms)) (λ x. IsTrue (own x) × (MembersAreCanonical ms → AllByRecursion (λ name. get_member name ms ≡ get_member name (members x)) names))

row_from : {A : Type 0} (names : List (List ℕ)) (members : A → Members) (pick : Data → Option A) (own : A → Bool) → IsRow names members pick own → (ms : Members) (extra : Bool) (o : Option A) → has_extra names ms ≡ extra
    → IfSome o (λ x. IsTrue (own x) × (MembersAreCanonical ms → AllByRecursion (λ name. get_member name ms ≡ get_member name (members x)) names))
    → IfSome (if extra then None else o) (IsReadFrom (λ x. object (members x)) own (object ms))
row_from names members pick own row ms true o extra h = tt
row_from names members pick own row ms false None extra h = tt
row_from names members pick own row ms false (Some x) extra h =
    (h.0, λ c. ap object (sym (row_is names ms (members x) c (row.ordered x) extra (row.no_more x) (h.1 c))))

pub object_from : {A : Type 0} (names : List (List ℕ)) (members : A → Members) (pick : Data → Option A) (own : A → Bool) → IsRow names members pick own → (ms : Members) → IfSome (read_object names pick (object ms)) (IsReadFrom (λ x. object (members x)) own (object ms))
object_from names members pick own row ms = row_from names members pick own row ms (has_extra names ms) (pick (object ms)) refl (row.from ms)

pub object_back : {A : Type 0} (names : List (List ℕ)) (members : A → Members) (pick : Data → Option A) (own : A → Bool) → IsRow names members pick own → (x : A) → IsTrue (own x) → read_object names pick (object (members x)) ≡ Some x
object_back names members pick own row x own_x = ap (λ extra. if extra then None else pick (object (members x))) (row.no_more x) ∙ row.back x own_x

weaker : {A : Type 0} (P Q : A → Type 0) (o : Option A) → ((x : A) → P x → Q x) → IfSome o P → IfSome o Q
weaker P Q None more h = tt
weaker P Q (Some x) more h = more x h

inside : {A R : Type 0} (wrap : A → R) (extra : Bool) (o : Option A) → option_map wrap (if extra then None else o) ≡ (if extra then None else option_map wrap o)
inside wrap true o = refl
inside wrap false o = refl

-- an object with one part, inside another type of the same content
pub wrapped_part : {A R : Type 0} (name : List ℕ) (value : A → Data) (read : Data → Option A) (own : A → Bool) (wrap : A → R) (inner : R → A) → ((r : R) → wrap (inner r) ≡ r) → ((x : A) → inner (wrap x) ≡ x)
    → IsPart (lone_value name value) (read_lone name read) own → IsPart (λ r. lone_value name value (inner r)) (read_object (name ∷ []) (λ v. option_map wrap (read_member name read v))) (λ r. own (inner r))
wrapped_part name value read own wrap inner wraps unwraps part =
    let same : (v : Data) → option_map wrap (read_lone name read v) ≡ read_object (name ∷ []) (λ d. option_map wrap (read_member name read d)) v = λ v. inside wrap (extra_in (name ∷ []) v) (read_member name read v) in
    record {
      back = λ r own_r. sym (same (lone_value name value (inner r))) ∙ ap (option_map wrap) (part.back (inner r) own_r) ∙ ap Some (wraps r);
      from = λ v. subst (λ o. IfSome o (IsReadFrom (λ r. lone_value name value (inner r)) (λ r. own (inner r)) v)) (same v)
          (mapped (IsReadFrom (lone_value name value) own v) (IsReadFrom (λ r. lone_value name value (inner r)) (λ r. own (inner r)) v) wrap (read_lone name read v)
          (λ x h. (ap own (unwraps x) ∙ h.0, λ canonical. ap (lone_value name value) (unwraps x) ∙ h.1 canonical)) (part.from v));
      written = λ r own_r. part.written (inner r) own_r;
    }

-- an object with one member of a name, in which that member is found and no other
module _ {A : Type 0} (name : List ℕ) (no_more : (d : Data) → has_extra (name ∷ []) (member name d no_members) ≡ false) (found : (d : Data) → get_member name (member name d no_members) ≡ Some d)
    (rises : (d : Data) → all_rise (member name d no_members) ≡ true) (value : A → Data) (read : Data → Option A) (own : A → Bool) (part : IsPart value read own) where
  abbrev lone_members : A → Members
  lone_members x = member name (value x) no_members

  lone_row : IsRow (name ∷ []) lone_members (read_member name read) own
  lone_row = record {
    ordered = λ x. (tt, tt);
    no_more = λ x. no_more (value x);
    back = λ x own_x. ap (option_and_then read) (found (value x)) ∙ part.back x own_x;
    from = λ ms. weaker (IsMemberFrom name value own ms) (λ x. IsTrue (own x) × (MembersAreCanonical ms → AllByRecursion (λ n. get_member n ms ≡ get_member n (lone_members x)) (name ∷ []))) (read_member name read (object ms))
        (λ x h. (h.0, λ canonical. (h.1 canonical ∙ sym (found (value x)), tt))) (member_from name value read own part ms);
  }

  lone_from : (v : Data) → IfSome (read_lone name read v) (IsReadFrom (lone_value name value) own v)
  lone_from null = tt
  lone_from (boolean b) = tt
  lone_from (number n) = tt
  lone_from (string s) = tt
  lone_from (array ds) = tt
  lone_from (object ms) = object_from (name ∷ []) lone_members (read_member name read) own lone_row ms

  pub lone_part : IsPart (lone_value name value) (read_lone name read) own
  lone_part = record {
    back = object_back (name ∷ []) lone_members (read_member name read) own lone_row;
    from = lone_from;
    written = λ x own_x. fixed (lone_members x) (rises (value x)) (part.written x own_x, tt);
  }

-- ---- split states

abbrev split_members : {C S P : Type 0} → (C → Data) → (S → Data) → (P → Data) → Split C S P → Members
split_members common secret player g = member (codes "common") (common g.common) (member (codes "players") (list_value (option_value player) g.players) (member (codes "secret") (option_value secret g.secret) no_members))

abbrev pick_split : {C S P : Type 0} → (Data → Option C) → (Data → Option S) → (Data → Option P) → Data → Option (Split C S P)
pick_split common secret player d = apply (apply (apply (Some split_of) (read_member (codes "common") common d)) (read_member (codes "players") (read_list (read_option player)) d)) (read_member (codes "secret") (read_option secret) d)

module _ {C S P : Type 0} (common : C → Data) (read_common : Data → Option C) (own_common : C → Bool) (commons : IsPart common read_common own_common)
    (secret : S → Data) (read_secret : Data → Option S) (own_secret : S → Bool) (secrets : IsPart (option_value secret) (read_option read_secret) (own_option own_secret))
    (player : P → Data) (read_player : Data → Option P) (own_player : P → Bool) (players : IsPart (list_value (option_value player)) (read_list (read_option read_player)) (list_all (own_option own_player))) where
  abbrev FromRow : Members → Split C S P → Type 0
  FromRow ms g = IsTrue (own_split own_common own_secret own_player g) × (MembersAreCanonical ms → AllByRecursion (λ name. get_member name ms ≡ get_member name (split_members common secret player g)) split_names)

  split_row_from : (ms : Members) → IfSome (pick_split read_common read_secret read_player (object ms)) (FromRow ms)
  split_row_from ms =
      applied (IsMemberFrom (codes "secret") (option_value secret) (own_option own_secret) ms) (FromRow ms) _ _
      (applied (IsMemberFrom (codes "players") (list_value (option_value player)) (list_all (own_option own_player)) ms) (λ f. (s : Option S) → IsMemberFrom (codes "secret") (option_value secret) (own_option own_secret) ms s → FromRow ms (f s)) _ _
      (applied (IsMemberFrom (codes "common") common own_common ms) (λ f. (ps : List (Option P)) → IsMemberFrom (codes "players") (list_value (option_value player)) (list_all (own_option own_player)) ms ps → (s : Option S) → IsMemberFrom (codes "secret") (option_value secret) (own_option own_secret) ms s → FromRow ms (f ps s)) (Some split_of) _
      (λ c h ps k s l. (both_true (own_common c && own_option own_secret s) (list_all (own_option own_player) ps) (both_true (own_common c) (own_option own_secret s) h.0 l.0) k.0, λ canonical. (h.1 canonical, (k.1 canonical, (l.1 canonical, tt)))))
      (member_from (codes "common") common read_common own_common commons ms))
      (member_from (codes "players") (list_value (option_value player)) (read_list (read_option read_player)) (list_all (own_option own_player)) players ms))
      (member_from (codes "secret") (option_value secret) (read_option read_secret) (own_option own_secret) secrets ms)

  split_row_back : (g : Split C S P) → IsTrue (own_split own_common own_secret own_player g) → pick_split read_common read_secret read_player (object (split_members common secret player g)) ≡ Some g
  split_row_back g own =
      let outer = and_parts (own_common g.common && own_option own_secret g.secret) (list_all (own_option own_player) g.players) own in
      let inner = and_parts (own_common g.common) (own_option own_secret g.secret) outer.0 in
      ap (λ o. apply (apply (apply (Some split_of) o) (read_list (read_option read_player) (list_value (option_value player) g.players))) (read_option read_secret (option_value secret g.secret))) (commons.back g.common inner.0)
      ∙ ap (λ o. apply (apply (Some (split_of g.common)) o) (read_option read_secret (option_value secret g.secret))) (players.back g.players outer.1)
      ∙ ap (λ o. apply (Some (split_of g.common g.players)) o) (secrets.back g.secret inner.1)

  split_row : IsRow split_names (split_members common secret player) (pick_split read_common read_secret read_player) (own_split own_common own_secret own_player)
  split_row = record {
    ordered = λ g. ((refl, (refl, tt)), ((refl, tt), (tt, tt)));
    no_more = λ g. refl;
    back = split_row_back;
    from = split_row_from;
  }

  split_from : (v : Data) → IfSome (read_split read_common read_secret read_player v) (IsReadFrom (split_value common secret player) (own_split own_common own_secret own_player) v)
  split_from null = tt
  split_from (boolean b) = tt
  split_from (number n) = tt
  split_from (string s) = tt
  split_from (array ds) = tt
  split_from (object ms) = object_from split_names (split_members common secret player) (pick_split read_common read_secret read_player) (own_split own_common own_secret own_player) split_row ms

  split_written : (g : Split C S P) → IsTrue (own_split own_common own_secret own_player g) → IsWritable (split_value common secret player g)
  split_written g own =
      let outer = and_parts (own_common g.common && own_option own_secret g.secret) (list_all (own_option own_player) g.players) own in
      let inner = and_parts (own_common g.common) (own_option own_secret g.secret) outer.0 in
      fixed (split_members common secret player g) refl (commons.written g.common inner.0, (players.written g.players outer.1, (secrets.written g.secret inner.1, tt)))

  pub split_part : IsPart (split_value common secret player) (read_split read_common read_secret read_player) (own_split own_common own_secret own_player)
  split_part = record {
    back = object_back split_names (split_members common secret player) (pick_split read_common read_secret read_player) (own_split own_common own_secret own_player) split_row;
    from = split_from;
    written = split_written;
  }

-- ---- a part that passes a test besides

pub passing_part : {A : Type 0} (value : A → Data) (read : Data → Option A) (own test : A → Bool) → IsPart value read own → IsPart value (λ v. passing test (read v)) (λ x. test x && own x)
passing_part value read own test part = record {
  back = λ x own_x. let parts = and_parts (test x) (own x) own_x in ap (passing test) (part.back x parts.1) ∙ passing_back test x parts.0;
  written = λ x own_x. part.written x (and_parts (test x) (own x) own_x).1;
  from = λ v. weaker (λ x. (test x ≡ true) × IsReadFrom value own v x) (IsReadFrom value (λ x. test x && own x) v) (passing test (read v)) (λ x h. (both_true (test x) (own x) h.0 h.1.0, h.1.1)) (passing_from (IsReadFrom value own v) test (read v) (part.from v));
}
