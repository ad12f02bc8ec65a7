-- The forms of parts and of objects keep the laws of forms.
use Rattle.std.proofs.Common.{◌≡◌, ◌≤◌, ◌<◌, ◌^◌, ◌&&◌, ◌||◌, ℕ, Bool, true, false, if◌then◌else◌, nat_le, IsTrue, List, [], ◌∷◌, length, map, Option, Some, None, option_map, option_and_then, refl, sym, ap, ◌∙◌, subst, arith}
use Rattle.std.specs.Prelude.{IfSome}
use Rattle.std.specs.Cmp.Lexicographic.{slice_cmp}
use Rattle.std.specs.List.{list_all}
use Rattle.std.specs.Ordering.{nat_cmp}
use Rattle.std.specs.declared.cmp.Ordering.TheVariants.{Less}
use Rattle.std.proofs.lemmas.Bool.{and_from, and_parts, leb-true}
use Rattle.json.proofs.Printed.Utf8.{are_ascii, IsUtf8-are_ascii}
use Rattle.json_tree.specs.Canonical.{IsCanonical, ItemsAreCanonical, MembersAreCanonical}
use Rattle.json_tree.specs.Names.{has_extra}
use Rattle.json_tree.specs.Writable.{IsWritable, ItemsAreWritable}
use Rattle.json_tree.proofs.Rows.{canonical_member, row_is}
use Rattle.open_game.specs.Form.{Form, FormLaws, IsReadFrom, StateLaws}
use Rattle.open_game.specs.Forms.{both, counted, is_between, is_seat, list_of, natural, natural_read, object_of_one, object_of_two, seat_or_none, seat_read, seat_value}
use Rattle.serde_json.specs.Data.{Data, null, boolean, number, string, array, object, unsigned, negative, float, Items, no_items, item, Members, no_members, member}
use Rattle.serde_json.specs.Find.{get_member}
use Rattle.serde_json.specs.View.{items_of}
use Rattle.serde_json.specs.Written.{has_float, items_have_float}
use Rattle.json_tree.specs.Fields.{read_each}

-- an answer says less where each value of it does
pub weaker : {A : Type 0} (o : Option A) (P Q : A → Type 0) → ((x : A) → P x → Q x) → IfSome o P → IfSome o Q
weaker None P Q less says = tt
weaker (Some x) P Q less says = less x says

-- ---- whole numbers

within : (fits : Bool) (most n : ℕ) → nat_le n most ≡ fits → IfSome (if fits then Some n else None) (λ m. (nat_le m most ≡ true) × (number (unsigned m) ≡ number (unsigned n)))
within true most n is = (is, refl)
within false most n is = tt

exact_natural : (most : ℕ) (v : Data) → IfSome (natural_read most v) (λ n. (nat_le n most ≡ true) × (number (unsigned n) ≡ v))
exact_natural most null = tt
exact_natural most (boolean b) = tt
exact_natural most (number (unsigned n)) = within (nat_le n most) most n refl
exact_natural most (number (negative z)) = tt
exact_natural most (number (float x)) = tt
exact_natural most (string s) = tt
exact_natural most (array ds) = tt
exact_natural most (object ms) = tt

natural_back : (most n : ℕ) → nat_le n most ≡ true → natural_read most (number (unsigned n)) ≡ Some n
natural_back most n fits = ap (λ b. if b then Some n else None) fits

natural_written : (most n : ℕ) → most < 2 ^ 64 → nat_le n most ≡ true → n < 2 ^ 64
natural_written most n small fits = let low : n ≤ most = leb-true n most fits in omega arith

pub natural_laws : (most : ℕ) → most < 2 ^ 64 → FormLaws (natural most)
natural_laws most small = record {
  float_free = λ n. refl;
  written = λ n own. natural_written most n small own;
  reads_back = natural_back most;
  reads = λ v. weaker (natural_read most v) _ _ (λ n is. (is.0, λ c. is.1)) (exact_natural most v);
}

-- ---- seats

seat_float_free : (seat : Option ℕ) → has_float (seat_value seat) ≡ false
seat_float_free None = refl
seat_float_free (Some seat) = refl

seat_written : (most : ℕ) (seat : Option ℕ) → most < 2 ^ 64 → is_seat most seat ≡ true → IsWritable (seat_value seat)
seat_written most None small fits = tt
seat_written most (Some seat) small fits = natural_written most seat small fits

seat_back : (most : ℕ) (seat : Option ℕ) → is_seat most seat ≡ true → seat_read most (seat_value seat) ≡ Some seat
seat_back most None fits = refl
seat_back most (Some seat) fits = ap (option_map Some) (natural_back most seat fits)

a_seat : (most : ℕ) (v : Data) (o : Option ℕ) → IfSome o (λ n. (nat_le n most ≡ true) × (number (unsigned n) ≡ v)) → IfSome (option_map Some o) (IsReadFrom (seat_or_none most) v)
a_seat most v None is = tt
a_seat most v (Some n) is = (is.0, λ c. is.1)

seat_reads : (most : ℕ) (v : Data) → IfSome (seat_read most v) (IsReadFrom (seat_or_none most) v)
seat_reads most null = (refl, λ c. refl)
seat_reads most (boolean b) = tt
seat_reads most (number n) = a_seat most (number n) (natural_read most (number n)) (exact_natural most (number n))
seat_reads most (string s) = tt
seat_reads most (array ds) = tt
seat_reads most (object ms) = tt

pub seat_laws : (most : ℕ) → most < 2 ^ 64 → FormLaws (seat_or_none most)
seat_laws most small = record {
  float_free = seat_float_free;
  written = λ seat own. seat_written most seat small own;
  reads_back = seat_back most;
  reads = seat_reads most;
}

-- ---- lists

module _ {A : Type 0} (form : Form A) (laws : FormLaws form) where
  each_float_free : (xs : List A) → items_have_float (items_of (map form.value xs)) ≡ false
  each_float_free [] = refl
  each_float_free (x ∷ xs) = ap (λ has. has || items_have_float (items_of (map form.value xs))) (laws.float_free x) ∙ each_float_free xs

  each_written : (xs : List A) → list_all form.own xs ≡ true → ItemsAreWritable (items_of (map form.value xs))
  each_written [] all = tt
  each_written (x ∷ xs) all = let parts = and_parts (form.own x) (list_all form.own xs) all in (laws.written x parts.0, each_written xs parts.1)

  each_back : (xs : List A) → list_all form.own xs ≡ true → read_each form.read (items_of (map form.value xs)) ≡ Some xs
  each_back [] all = refl
  each_back (x ∷ xs) all =
      let parts = and_parts (form.own x) (list_all form.own xs) all in
      ap (option_and_then (λ y. option_map (λ ys. y ∷ ys) (read_each form.read (items_of (map form.value xs))))) (laws.reads_back x parts.0)
      ∙ ap (option_map (λ ys. x ∷ ys)) (each_back xs parts.1)

  abbrev AreRead : Items → List A → Type 0
  AreRead ds xs = (list_all form.own xs ≡ true) × (ItemsAreCanonical ds → items_of (map form.value xs) ≡ ds)

  one_more : (d : Data) (ds : Items) (first : Option A) (rest : Option (List A)) → IfSome first (IsReadFrom form d) → IfSome rest (AreRead ds) → IfSome (option_and_then (λ x. option_map (λ xs. x ∷ xs) rest) first) (AreRead (item d ds))
  one_more d ds None rest is others = tt
  one_more d ds (Some x) None is others = tt
  one_more d ds (Some x) (Some xs) is others = (and_from (form.own x) (list_all form.own xs) is.0 others.0, λ c. ap (λ e. item e (items_of (map form.value xs))) (is.1 c.0) ∙ ap (item d) (others.1 c.1))

  each_reads : (ds : Items) → IfSome (read_each form.read ds) (AreRead ds)
  each_reads no_items = (refl, λ c. refl)
  each_reads (item d ds) = one_more d ds (form.read d) (read_each form.read ds) (laws.reads d) (each_reads ds)

  module _ (least most : ℕ) where
    list_back : (xs : List A) → IsTrue (is_between least most (length xs) && list_all form.own xs) → option_and_then (counted least most) (read_each form.read (items_of (map form.value xs))) ≡ Some xs
    list_back xs own =
        let parts = and_parts (is_between least most (length xs)) (list_all form.own xs) own in
        ap (option_and_then (counted least most)) (each_back xs parts.1) ∙ ap (λ fits. if fits then Some xs else None) parts.0

    counted_reads : (fits : Bool) (ds : Items) (xs : List A) → is_between least most (length xs) ≡ fits → AreRead ds xs → IfSome (if fits then Some xs else None) (IsReadFrom (list_of least most form) (array ds))
    counted_reads false ds xs fits is = tt
    counted_reads true ds xs fits is = (and_from (is_between least most (length xs)) (list_all form.own xs) fits is.0, λ c. ap array (is.1 c))

    some_read : (ds : Items) (o : Option (List A)) → IfSome o (AreRead ds) → IfSome (option_and_then (counted least most) o) (IsReadFrom (list_of least most form) (array ds))
    some_read ds None is = tt
    some_read ds (Some xs) is = counted_reads (is_between least most (length xs)) ds xs refl is

    list_reads : (v : Data) → IfSome ((list_of least most form).read v) (IsReadFrom (list_of least most form) v)
    list_reads null = tt
    list_reads (boolean b) = tt
    list_reads (number n) = tt
    list_reads (string s) = tt
    list_reads (array ds) = some_read ds (read_each form.read ds) (each_reads ds)
    list_reads (object ms) = tt

    pub list_laws : FormLaws (list_of least most form)
    list_laws = record {
      float_free = each_float_free;
      written = λ xs own. each_written xs (and_parts (is_between least most (length xs)) (list_all form.own xs) own).1;
      reads_back = list_back;
      reads = list_reads;
    }

-- ---- objects

-- a member that was read has an own value, and is what is written of it
member_reads : {A : Type 0} (form : Form A) (laws : FormLaws form) (name : List ℕ) (ms : Members) (found : Option Data) → get_member name ms ≡ found
    → IfSome (option_and_then form.read found) (λ x. IsTrue (form.own x) × (MembersAreCanonical ms → get_member name ms ≡ Some (form.value x)))
member_reads form laws name ms None is = tt
member_reads form laws name ms (Some d) is = weaker (form.read d) (IsReadFrom form d) _ (λ x reads. (reads.0, λ c. is ∙ ap Some (sym (reads.1 (canonical_member name ms d c is))))) (laws.reads d)

-- what a name must be: its object is found by it and by no other, and it is UTF-8
pub record IsName (name : List ℕ) : Type 0 where
  pub known : (d : Data) → has_extra (name ∷ []) (member name d no_members) ≡ false
  pub found : (d : Data) → get_member name (member name d no_members) ≡ Some d
  pub ascii : are_ascii name ≡ true

module _ {A G : Type 0} (name : List ℕ) (named : IsName name) (form : Form A) (laws : FormLaws form) (make : A → G) (part : G → A) (made : (g : G) → make (part g) ≡ g) (parted : (x : A) → part (make x) ≡ x) where
  one_read : (ms : Members) (extra : Bool) (o : Option A) → has_extra (name ∷ []) ms ≡ extra → IfSome o (λ x. IsTrue (form.own x) × (MembersAreCanonical ms → get_member name ms ≡ Some (form.value x)))
      → IfSome (if extra then None else option_map make o) (IsReadFrom (object_of_one name form make part) (object ms))
  one_read ms true o extra is = tt
  one_read ms false None extra is = tt
  one_read ms false (Some x) extra is =
      subst (λ y. IsTrue (form.own y) × (IsCanonical (object ms) → object (member name (form.value y) no_members) ≡ object ms)) (sym (parted x))
      (is.0, λ c. ap object (sym (row_is (name ∷ []) ms (member name (form.value x) no_members) c (tt, tt) extra (named.known (form.value x)) (is.1 c ∙ sym (named.found (form.value x)), tt))))

  one_reads : (v : Data) → IfSome ((object_of_one name form make part).read v) (IsReadFrom (object_of_one name form make part) v)
  one_reads null = tt
  one_reads (boolean b) = tt
  one_reads (number n) = tt
  one_reads (string s) = tt
  one_reads (array ds) = tt
  one_reads (object ms) = one_read ms (has_extra (name ∷ []) ms) (option_and_then form.read (get_member name ms)) refl (member_reads form laws name ms (get_member name ms) refl)

  one_back : (g : G) → IsTrue (form.own (part g)) → (object_of_one name form make part).read ((object_of_one name form make part).value g) ≡ Some g
  one_back g own =
      ap (λ extra. if extra then None else option_map make (option_and_then form.read (get_member name (member name (form.value (part g)) no_members)))) (named.known (form.value (part g)))
      ∙ ap (λ found. option_map make (option_and_then form.read found)) (named.found (form.value (part g)))
      ∙ ap (option_map make) (laws.reads_back (part g) own)
      ∙ ap Some (made g)

  pub one_laws : StateLaws (object_of_one name form make part)
  one_laws = record {
    laws = record {
      float_free = λ g. ap (λ has. has || false) (laws.float_free (part g));
      written = λ g own. (tt, laws.written (part g) own, tt, IsUtf8-are_ascii name named.ascii);
      reads_back = one_back;
      reads = one_reads;
    };
    object = λ g. refl;
  }

-- the same of two names, of which the first is below the second
pub record AreNames (one two : List ℕ) : Type 0 where
  pub rise : slice_cmp nat_cmp one two ≡ Less
  pub known : (d e : Data) → has_extra (one ∷ two ∷ []) (member one d (member two e no_members)) ≡ false
  pub first : (d e : Data) → get_member one (member one d (member two e no_members)) ≡ Some d
  pub second : (d e : Data) → get_member two (member one d (member two e no_members)) ≡ Some e
  pub ascii : are_ascii one ≡ true
  pub ascii_too : are_ascii two ≡ true

both_says : {A B G : Type 0} (make : A → B → G) (P : A → Type 0) (Q : B → Type 0) (R : G → Type 0) → ((x : A) (y : B) → P x → Q y → R (make x y)) → (o : Option A) (p : Option B) → IfSome o P → IfSome p Q → IfSome (both make o p) R
both_says make P Q R says None p is too = tt
both_says make P Q R says (Some x) None is too = tt
both_says make P Q R says (Some x) (Some y) is too = says x y is too

module _ {A B G : Type 0} (one two : List ℕ) (named : AreNames one two) (first : Form A) (first_laws : FormLaws first) (second : Form B) (second_laws : FormLaws second)
    (make : A → B → G) (a_of : G → A) (b_of : G → B) (made : (g : G) → make (a_of g) (b_of g) ≡ g) (a_made : (x : A) (y : B) → a_of (make x y) ≡ x) (b_made : (x : A) (y : B) → b_of (make x y) ≡ y) where
  abbrev form : Form G
  form = object_of_two one first two second make a_of b_of

  abbrev row : A → B → Members
  row x y = member one (first.value x) (member two (second.value y) no_members)

  abbrev HasBoth : Members → A → B → Type 0
  HasBoth ms x y = IsTrue (first.own x && second.own y) × (IsCanonical (object ms) → object (row x y) ≡ object ms)

  two_read : (ms : Members) (extra : Bool) (o : Option A) (p : Option B) → has_extra (one ∷ two ∷ []) ms ≡ extra
      → IfSome o (λ x. IsTrue (first.own x) × (MembersAreCanonical ms → get_member one ms ≡ Some (first.value x)))
      → IfSome p (λ y. IsTrue (second.own y) × (MembersAreCanonical ms → get_member two ms ≡ Some (second.value y)))
      → IfSome (if extra then None else both make o p) (IsReadFrom form (object ms))
  two_read ms true o p extra is too = tt
  two_read ms false o p extra is too = both_says make
      (λ x. IsTrue (first.own x) × (MembersAreCanonical ms → get_member one ms ≡ Some (first.value x)))
      (λ y. IsTrue (second.own y) × (MembersAreCanonical ms → get_member two ms ≡ Some (second.value y)))
      (IsReadFrom form (object ms))
      (λ x y a b.
      let here : HasBoth ms x y = (
        and_from (first.own x) (second.own y) a.0 b.0,
        λ c. ap object (sym (row_is (one ∷ two ∷ []) ms (row x y) c ((named.rise, tt), (tt, tt)) extra (named.known (first.value x) (second.value y))
            (a.1 c ∙ sym (named.first (first.value x) (second.value y)), (b.1 c ∙ sym (named.second (first.value x) (second.value y)), tt)))),
      ) in
      subst (λ v. HasBoth ms (a_of (make x y)) v) (sym (b_made x y)) (subst (λ u. HasBoth ms u y) (sym (a_made x y)) here))
      o p is too

  two_reads : (v : Data) → IfSome (form.read v) (IsReadFrom form v)
  two_reads null = tt
  two_reads (boolean b) = tt
  two_reads (number n) = tt
  two_reads (string s) = tt
  two_reads (array ds) = tt
  two_reads (object ms) = two_read ms (has_extra (one ∷ two ∷ []) ms) (option_and_then first.read (get_member one ms)) (option_and_then second.read (get_member two ms)) refl
      (member_reads first first_laws one ms (get_member one ms) refl) (member_reads second second_laws two ms (get_member two ms) refl)

  two_back : (g : G) → IsTrue (first.own (a_of g) && second.own (b_of g)) → form.read (form.value g) ≡ Some g
  two_back g own =
      let parts = and_parts (first.own (a_of g)) (second.own (b_of g)) own in
      let x = first.value (a_of g) in
      let y = second.value (b_of g) in
      let held = row (a_of g) (b_of g) in
      ap (λ extra. if extra then None else both make (option_and_then first.read (get_member one held)) (option_and_then second.read (get_member two held))) (named.known x y)
      ∙ ap (λ found. both make (option_and_then first.read found) (option_and_then second.read (get_member two held))) (named.first x y)
      ∙ ap (λ found. both make (first.read x) (option_and_then second.read found)) (named.second x y)
      ∙ ap (λ a. both make a (second.read y)) (first_laws.reads_back (a_of g) parts.0)
      ∙ ap (both make (Some (a_of g))) (second_laws.reads_back (b_of g) parts.1)
      ∙ ap Some (made g)

  pub two_laws : StateLaws form
  two_laws = record {
    laws = record {
      float_free = λ g. ap (λ has. has || (has_float (second.value (b_of g)) || false)) (first_laws.float_free (a_of g)) ∙ ap (λ has. has || false) (second_laws.float_free (b_of g));
      written = λ g own.
          let parts = and_parts (first.own (a_of g)) (second.own (b_of g)) own in
          ((named.rise, tt), first_laws.written (a_of g) parts.0, (tt, second_laws.written (b_of g) parts.1, tt, IsUtf8-are_ascii two named.ascii_too), IsUtf8-are_ascii one named.ascii);
      reads_back = two_back;
      reads = two_reads;
    };
    object = λ g. refl;
  }
