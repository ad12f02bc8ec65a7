-- What reading gives has numbers of 64 bits, and floats.
use Rattle.std.proofs.Common.{◌≡◌, ℕ, zero, suc, ◌<◌, ◌≤◌, ◌^◌, pos, negsuc, List, Bool, true, false, ◌&&◌, cond, ◌==◌, drop, slice_index, Option, Some, None, option_map, option_and_then, Ordering, Less, Equal, Greater, refl, ap, subst, arith}
use Rattle.std.proofs.lemmas.Bool.{ltb-true, leb-true, and_parts}
use Rattle.std.specs.Ordering.{nat_cmp, match_ordering}
use Rattle.std.specs.Cmp.Lexicographic.{slice_cmp}
use Rattle.std.specs.Prelude.{nat_lt, nat_le, Float}
use Rattle.std.specs.Float.{binary64, float_is_finite}
use Rattle.fast_float.specs.Text.{minus, Parts, scan, digits_of, nearest, with_sign}
use Rattle.json.specs.Json as json
use Rattle.json.specs.Lex.{tokens}
use Rattle.serde_json.specs.Data.{Num, unsigned, negative, float, Data, null, boolean, number, string, array, object, Items, no_items, item, Members, no_members, member, put}
use Rattle.serde_json.specs.Read.{is_integer, float_of, number_from, number_of, of_json, of_items, of_members, max_depth, read}

abbrev pub IsInRange : Num → Type 0
IsInRange (unsigned n) = n < 2 ^ 64
IsInRange (negative (pos n)) = ⊥
IsInRange (negative (negsuc n)) = n < 2 ^ 63
IsInRange (float x) = Unit {0}

abbrev mutual
  pub HasRange : Data → Type 0
  HasRange null = Unit {0}
  HasRange (boolean b) = Unit {0}
  HasRange (number n) = IsInRange n
  HasRange (string s) = Unit {0}
  HasRange (array ds) = ItemsHaveRange ds
  HasRange (object ms) = MembersHaveRange ms

  pub ItemsHaveRange : Items → Type 0
  ItemsHaveRange no_items = Unit {0}
  ItemsHaveRange (item d ds) = HasRange d × ItemsHaveRange ds

  pub MembersHaveRange : Members → Type 0
  MembersHaveRange no_members = Unit {0}
  MembersHaveRange (member k d ms) = HasRange d × MembersHaveRange ms

-- ---- a member that is put in

put_at : (o : Ordering) (k l : List ℕ) (d e : Data) (ms : Members) → HasRange d → MembersHaveRange (member l e ms) → MembersHaveRange (put k d ms)
    → MembersHaveRange (match_ordering o (member k d (member l e ms)) (member l d ms) (member l e (put k d ms)))
put_at Less k l d e ms h i later = (h, i)
put_at Equal k l d e ms h i later = (h, i.1)
put_at Greater k l d e ms h i later = (i.0, later)

range_put : (k : List ℕ) (d : Data) (ms : Members) → HasRange d → MembersHaveRange ms → MembersHaveRange (put k d ms)
range_put k d no_members h i = (h, tt)
range_put k d (member l e ms) h i = put_at (slice_cmp nat_cmp k l) k l d e ms h i (range_put k d ms h i.1)

-- ---- numbers

float_range : (b : Bool) (x : Float) (n : Num) → cond b (Some (float x)) None ≡ Some n → IsInRange n
float_range true x n e = let is : float x ≡ n = cc in subst IsInRange is tt
float_range false x n e = absurd (cc)

or_float : (b s : Bool) (p : Parts) (m : Num) → (b ≡ true → IsInRange m) → (n : Num) → cond b (Some m) (float_of s p) ≡ Some n → IsInRange n
or_float true s p m h n e = let same : m ≡ n = cc in subst IsInRange same (h refl)
or_float false s p m h n e = float_range (float_is_finite (nearest binary64 s p)) (nearest binary64 s p) n e

below_zero : (k : ℕ) → 0 < k → k ≤ 2 ^ 63 → IsInRange (negative (with_sign true k))
below_zero zero h i = absurd (omega arith)
below_zero (suc k) h i = omega arith

number_range : (s : Bool) (p : Parts) (n : Num) → number_from s p ≡ Some n → IsInRange n
number_range false p n e =
    or_float (is_integer p && nat_lt (digits_of p) (2 ^ 64)) false p (unsigned (digits_of p)) (λ h. ltb-true (digits_of p) (2 ^ 64) (and_parts (is_integer p) _ h).1) n e
number_range true p n e =
    or_float (is_integer p && nat_lt 0 (digits_of p) && nat_le (digits_of p) (2 ^ 63)) true p (negative (with_sign true (digits_of p)))
    (λ h. let both = and_parts (is_integer p && nat_lt 0 (digits_of p)) _ h in
    below_zero (digits_of p) (ltb-true 0 (digits_of p) (and_parts (is_integer p) _ both.0).1) (leb-true (digits_of p) (2 ^ 63) both.1)) n e

either_range : (b : Bool) (p q : Parts) (n : Num) → cond b (number_from true p) (number_from false q) ≡ Some n → IsInRange n
either_range true p q n e = number_range true p n e
either_range false p q n e = number_range false q n e

range_read : (s : List ℕ) (n : Num) → number_of s ≡ Some n → IsInRange n
unfolding number_of
range_read s n e = either_range (slice_index s 0 == minus) (scan (drop 1 s)) (scan s) n e

-- ---- values

mapped : {A B : Type 0} (f : A → B) (o : Option A) (b : B) → option_map f o ≡ Some b → (a : A) × (o ≡ Some a) × (f a ≡ b)
mapped f None b e = absurd (cc)
mapped f (Some a) b e = (a, refl, cc)

chained : {A B : Type 0} (f : A → Option B) (o : Option A) (b : B) → option_and_then f o ≡ Some b → (a : A) × (o ≡ Some a) × (f a ≡ Some b)
chained f None b e = absurd (cc)
chained f (Some a) b e = (a, refl, e)

mutual
  json_range : (j : json.Json) (d : Data) → of_json j ≡ Some d → HasRange d
  json_range json.null d e = let is : null ≡ d = cc in subst HasRange is tt
  json_range (json.boolean b) d e = let is : boolean b ≡ d = cc in subst HasRange is tt
  json_range (json.number s) d e = let n = mapped number (number_of s) d e in subst HasRange n.2 (range_read s n.0 n.1)
  json_range (json.string s) d e = let is : string s ≡ d = cc in subst HasRange is tt
  json_range (json.array js) d e = let ds = mapped array (of_items js) d e in subst HasRange ds.2 (items_range js ds.0 ds.1)
  json_range (json.object ms) d e = let ns = mapped object (of_members ms no_members) d e in subst HasRange ns.2 (members_range ms no_members ns.0 tt ns.1)

  items_range : (js : json.Items) (ds : Items) → of_items js ≡ Some ds → ItemsHaveRange ds
  items_range json.no_items ds e = let is : no_items ≡ ds = cc in subst ItemsHaveRange is tt
  items_range (json.item j js) ds e =
      let d = chained (λ x. option_map (item x) (of_items js)) (of_json j) ds e in
      let rest = mapped (item d.0) (of_items js) ds d.2 in
      subst ItemsHaveRange rest.2 (json_range j d.0 d.1, items_range js rest.0 rest.1)

  members_range : (ms : json.Members) (found ns : Members) → MembersHaveRange found → of_members ms found ≡ Some ns → MembersHaveRange ns
  members_range json.no_members found ns h e = let is : found ≡ ns = cc in subst MembersHaveRange is h
  members_range (json.member k j ms) found ns h e =
      let d = chained (λ x. of_members ms (put k x found)) (of_json j) ns e in
      members_range ms (put k d.0 found) ns (range_put k d.0 found (json_range j d.0 d.1) h) d.2

pub read_range : (text : List ℕ) (d : Data) → read text ≡ Some d → HasRange d
read_range text d e = let j = chained of_json (option_and_then (λ p. json.if_last p.0 p.1) (json.value max_depth (tokens text))) d e in json_range j.0 d j.2
