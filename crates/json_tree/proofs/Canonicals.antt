-- What `read` gives is canonical.
use Rattle.std.proofs.Common.{◌≡◌, ℕ, zero, suc, ◌<◌, ◌^◌, List, Bool, true, false, ◌&&◌, cond, ◌==◌, drop, slice_index, Option, Some, None, option_map, option_and_then, Ordering, Less, Equal, Greater, refl, ap, ◌∙◌, subst, arith}
use Rattle.std.proofs.lemmas.Bool.{ltb-true, and_parts}
use Rattle.std.proofs.lemmas.Cmp.{nat_list_cmp_total}
use Rattle.std.specs.Ordering.{nat_cmp, match_ordering, ordering_reverse}
use Rattle.std.specs.Cmp.Lexicographic.{slice_cmp}
use Rattle.std.specs.Prelude.{nat_lt, nat_le, Float}
use Rattle.std.specs.Float.{binary64, float_is_finite}
use Rattle.fast_float.specs.Text.{minus, Parts, scan, digits_of, nearest, with_sign}
use Rattle.json.specs.Json as json
use Rattle.json.specs.Lex.{tokens}
use Rattle.serde_json.specs.Data.{Num, unsigned, negative, float, Data, null, boolean, number, string, array, object, Items, no_items, item, Members, no_members, member, put}
use Rattle.serde_json.specs.Read.{is_integer, float_of, number_from, number_of, of_json, of_items, of_members, max_depth, read}
use Rattle.json_tree.specs.Canonical.{AreAbove, IsProper, IsCanonical, ItemsAreCanonical, MembersAreCanonical}

abbrev pub order : List ℕ → List ℕ → Ordering
order = slice_cmp nat_cmp

-- ---- a member that is put in

pub above_more : (low high : List ℕ) (ms : Members) → order low high ≡ Less → AreAbove high ms → AreAbove low ms
above_more low high no_members h a = tt
above_more low high (member k d ms) h a = (nat_list_cmp_total.trans low high k h a.0, above_more low high ms h a.1)

above_put_at : (o : Ordering) (low k l : List ℕ) (d e : Data) (ms : Members) → order low k ≡ Less → AreAbove low (member l e ms) → AreAbove low (put k d ms)
    → AreAbove low (match_ordering o (member k d (member l e ms)) (member l d ms) (member l e (put k d ms)))
above_put_at Less low k l d e ms h a later = (h, (a.0, a.1))
above_put_at Equal low k l d e ms h a later = (a.0, a.1)
above_put_at Greater low k l d e ms h a later = (a.0, later)

above_put : (low k : List ℕ) (d : Data) (ms : Members) → order low k ≡ Less → AreAbove low ms → AreAbove low (put k d ms)
above_put low k d no_members h a = (h, tt)
above_put low k d (member l e ms) h a = above_put_at (order k l) low k l d e ms h a (above_put low k d ms h a.1)

pub greater : (k l : List ℕ) → order k l ≡ Greater → order l k ≡ Less
greater k l h = nat_list_cmp_total.antisymm l k ∙ ap ordering_reverse h

canonical_put_at : (o : Ordering) (k l : List ℕ) (d e : Data) (ms : Members) → order k l ≡ o → IsCanonical d → MembersAreCanonical (member l e ms) → MembersAreCanonical (put k d ms)
    → MembersAreCanonical (match_ordering o (member k d (member l e ms)) (member l d ms) (member l e (put k d ms)))
canonical_put_at Less k l d e ms is c cs later = ((is, above_more k l ms is cs.0), c, cs)
canonical_put_at Equal k l d e ms is c cs later = (cs.0, c, cs.2)
canonical_put_at Greater k l d e ms is c cs later = (above_put l k d ms (greater k l is) cs.0, cs.1, later)

pub canonical_put : (k : List ℕ) (d : Data) (ms : Members) → IsCanonical d → MembersAreCanonical ms → MembersAreCanonical (put k d ms)
canonical_put k d no_members c cs = (tt, c, tt)
canonical_put k d (member l e ms) c cs = canonical_put_at (order k l) k l d e ms refl c cs (canonical_put k d ms c cs.2)

-- ---- numbers

proper_float : (b : Bool) (x : Float) (n : Num) → cond b (Some (float x)) None ≡ Some n → IsProper n
proper_float true x (unsigned m) e = tt
proper_float true x (negative z) e = absurd (cc)
proper_float true x (float y) e = tt
proper_float false x n e = absurd (cc)

proper_or_float : (b s : Bool) (p : Parts) (m : Num) → (b ≡ true → IsProper m) → (n : Num) → cond b (Some m) (float_of s p) ≡ Some n → IsProper n
proper_or_float true s p m h n e = let same : m ≡ n = cc in subst IsProper same (h refl)
proper_or_float false s p m h n e = proper_float (float_is_finite (nearest binary64 s p)) (nearest binary64 s p) n e

below_zero : (k : ℕ) → 0 < k → IsProper (negative (with_sign true k))
below_zero zero h = absurd (omega arith)
below_zero (suc k) h = tt

proper_number : (s : Bool) (p : Parts) (n : Num) → number_from s p ≡ Some n → IsProper n
proper_number false p n e = proper_or_float (is_integer p && nat_lt (digits_of p) (2 ^ 64)) false p (unsigned (digits_of p)) (λ _. tt) n e
proper_number true p n e =
    proper_or_float (is_integer p && nat_lt 0 (digits_of p) && nat_le (digits_of p) (2 ^ 63)) true p (negative (with_sign true (digits_of p)))
    (λ h. below_zero (digits_of p) (ltb-true 0 (digits_of p) (and_parts (is_integer p) _ (and_parts (is_integer p && nat_lt 0 (digits_of p)) _ h).0).1)) n e

proper_either : (b : Bool) (p q : Parts) (n : Num) → cond b (number_from true p) (number_from false q) ≡ Some n → IsProper n
proper_either true p q n e = proper_number true p n e
proper_either false p q n e = proper_number false q n e

proper_read : (s : List ℕ) (n : Num) → number_of s ≡ Some n → IsProper n
unfolding number_of
proper_read s n e = proper_either (slice_index s 0 == minus) (scan (drop 1 s)) (scan s) n e

-- ---- values

mapped : {A B : Type 0} (f : A → B) (o : Option A) (b : B) → option_map f o ≡ Some b → (a : A) × (o ≡ Some a) × (f a ≡ b)
mapped f None b e = absurd (cc)
mapped f (Some a) b e = (a, refl, cc)

chained : {A B : Type 0} (f : A → Option B) (o : Option A) (b : B) → option_and_then f o ≡ Some b → (a : A) × (o ≡ Some a) × (f a ≡ Some b)
chained f None b e = absurd (cc)
chained f (Some a) b e = (a, refl, e)

mutual
  pub canonical_json : (j : json.Json) (d : Data) → of_json j ≡ Some d → IsCanonical d
  canonical_json json.null d e = let is : null ≡ d = cc in subst IsCanonical is tt
  canonical_json (json.boolean b) d e = let is : boolean b ≡ d = cc in subst IsCanonical is tt
  canonical_json (json.number s) d e = let n = mapped number (number_of s) d e in subst IsCanonical n.2 (proper_read s n.0 n.1)
  canonical_json (json.string s) d e = let is : string s ≡ d = cc in subst IsCanonical is tt
  canonical_json (json.array js) d e = let ds = mapped array (of_items js) d e in subst IsCanonical ds.2 (canonical_items js ds.0 ds.1)
  canonical_json (json.object ms) d e = let ns = mapped object (of_members ms no_members) d e in subst IsCanonical ns.2 (canonical_members ms no_members ns.0 tt ns.1)

  pub canonical_items : (js : json.Items) (ds : Items) → of_items js ≡ Some ds → ItemsAreCanonical ds
  canonical_items json.no_items ds e = let is : no_items ≡ ds = cc in subst ItemsAreCanonical is tt
  canonical_items (json.item j js) ds e =
      let d = chained (λ x. option_map (item x) (of_items js)) (of_json j) ds e in
      let rest = mapped (item d.0) (of_items js) ds d.2 in
      subst ItemsAreCanonical rest.2 (canonical_json j d.0 d.1, canonical_items js rest.0 rest.1)

  pub canonical_members : (ms : json.Members) (found ns : Members) → MembersAreCanonical found → of_members ms found ≡ Some ns → MembersAreCanonical ns
  canonical_members json.no_members found ns c e = let is : found ≡ ns = cc in subst MembersAreCanonical is c
  canonical_members (json.member k j ms) found ns c e =
      let d = chained (λ x. of_members ms (put k x found)) (of_json j) ns e in
      canonical_members ms (put k d.0 found) ns (canonical_put k d.0 found (canonical_json j d.0 d.1) c) d.2

pub canonical_read : (text : List ℕ) (d : Data) → read text ≡ Some d → IsCanonical d
canonical_read text d e = let j = chained of_json (option_and_then (λ p. json.if_last p.0 p.1) (json.value max_depth (tokens text))) d e in canonical_json j.0 d j.2
