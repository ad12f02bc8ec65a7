-- A code for JSON data, by which a proof tells two values of a `Tree` apart: a tag for the kind, and the code of what it holds.
use Rattle.std.specs.Prelude.{◌≡◌, ◌⊎◌, ℕ, ℤ, List, Bool, true, false, Float, eqb, refl}
use Rattle.std.proofs.Common.{ap, inl, inr, eq-eqb}
use Rattle.std.proofs.lemmas.Bool.{true≢false, false≢true}
use Rattle.std.specs.Coded.{Coded, code_by, coded_ℕ, coded_ℤ, coded_bool, coded_list, coded⊎}
use base.Stored.{Gv, gnil, gnum, gcons, num, coded_float}
use Rattle.serde_json.specs.Data.{Num, unsigned, negative, float, Data, null, boolean, number, string, array, object, Items, no_items, item, Members, no_members, member}

abbrev num_parts : Num → ℕ ⊎ (ℤ ⊎ Float)
num_parts (unsigned n) = inl n
num_parts (negative z) = inr (inl z)
num_parts (float x) = inr (inr x)

abbrev num_from : ℕ ⊎ (ℤ ⊎ Float) → Num
num_from (inl n) = unsigned n
num_from (inr (inl z)) = negative z
num_from (inr (inr x)) = float x

pub num_from-num_parts : (n : Num) → num_from (num_parts n) ≡ n
num_from-num_parts (unsigned n) = refl
num_from-num_parts (negative z) = refl
num_from-num_parts (float x) = refl

abbrev pub num_code : Coded Num
num_code = code_by (ℕ ⊎ (ℤ ⊎ Float)) (coded⊎ coded_ℕ (coded⊎ coded_ℤ coded_float)) num_parts num_from num_from-num_parts

abbrev pub text_code : Coded (List ℕ)
text_code = coded_list coded_ℕ

abbrev mutual
  pub data_gv : Data → Gv
  data_gv null = gcons (gnum 0) gnil
  data_gv (boolean b) = gcons (gnum 1) (coded_bool.code b)
  data_gv (number n) = gcons (gnum 2) (num_code.code n)
  data_gv (string s) = gcons (gnum 3) (text_code.code s)
  data_gv (array ds) = gcons (gnum 4) (items_gv ds)
  data_gv (object ms) = gcons (gnum 5) (members_gv ms)

  pub items_gv : Items → Gv
  items_gv no_items = gnil
  items_gv (item d ds) = gcons (data_gv d) (items_gv ds)

  pub members_gv : Members → Gv
  members_gv no_members = gnil
  members_gv (member k d ms) = gcons (text_code.code k) (gcons (data_gv d) (members_gv ms))

abbrev front : Gv → Gv
front gnil = gnil
front (gnum n) = gnil
front (gcons a b) = a

abbrev rest : Gv → Gv
rest gnil = gnil
rest (gnum n) = gnil
rest (gcons a b) = b

abbrev is_pair : Gv → Bool
is_pair gnil = false
is_pair (gnum n) = false
is_pair (gcons a b) = true

same_tag : (g h : Gv) → g ≡ h → eqb (num (front g)) (num (front h)) ≡ true
same_tag g h p = eq-eqb (num (front g)) (num (front h)) (ap (λ x. num (front x)) p)

mutual
  pub data_inj : (x y : Data) → data_gv x ≡ data_gv y → x ≡ y
  data_inj null null p = refl
  data_inj (boolean b) (boolean c) p = ap boolean (coded_bool.inj b c (ap rest p))
  data_inj (number m) (number n) p = ap number (num_code.inj m n (ap rest p))
  data_inj (string s) (string t) p = ap string (text_code.inj s t (ap rest p))
  data_inj (array ds) (array es) p = ap array (items_inj ds es (ap rest p))
  data_inj (object ms) (object ns) p = ap object (members_inj ms ns (ap rest p))
  data_inj x y p = absurd (false≢true (same_tag (data_gv x) (data_gv y) p))

  pub items_inj : (ds es : Items) → items_gv ds ≡ items_gv es → ds ≡ es
  items_inj no_items no_items p = refl
  items_inj no_items (item e es) p = absurd (false≢true (ap is_pair p))
  items_inj (item d ds) no_items p = absurd (true≢false (ap is_pair p))
  items_inj (item d ds) (item e es) p = λ i. item (data_inj d e (ap front p) i) (items_inj ds es (ap rest p) i)

  pub members_inj : (ms ns : Members) → members_gv ms ≡ members_gv ns → ms ≡ ns
  members_inj no_members no_members p = refl
  members_inj no_members (member l e ns) p = absurd (false≢true (ap is_pair p))
  members_inj (member k d ms) no_members p = absurd (true≢false (ap is_pair p))
  members_inj (member k d ms) (member l e ns) p =
      λ i. member (text_code.inj k l (ap front p) i) (data_inj d e (ap (λ g. front (rest g)) p) i) (members_inj ms ns (ap (λ g. rest (rest g)) p) i)

abbrev pub data_code : Coded Data
data_code = record { code = data_gv; inj = data_inj }
