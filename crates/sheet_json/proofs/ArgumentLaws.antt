-- What reads as arguments is their array, and their array reads as them; it is writable, and flat.
use Rattle.std.proofs.Common.{◌≡◌, ℕ, suc, ◌≤◌, ◌^◌, List, [], ◌∷◌, length, pos, negsuc, Bool, true, false, cond, Option, Some, None, option_map, option_and_then, refl, ap, ◌∙◌, subst, arith}
use Rattle.std.proofs.lemmas.Bool.{and_parts, le-leb, leb-true, lt-ltb}
use Rattle.std.proofs.lemmas.Bool.Decides.{nat_tests}
use Rattle.std.proofs.lemmas.Str.{IsUtf8-from_is_utf8}
use Rattle.std.specs.List.{AllByRecursion}
use Rattle.std.specs.Str.{is_utf8}
use Rattle.std.specs.Prelude.{nat_le, nat_lt, int_le, ◌&&◌}
use Rattle.serde_json.specs.Data.{unsigned, negative, float, Data, null, boolean, number, string, array, object, Items, no_items, item, depth, items_depth}
use Rattle.serde_json.specs.Events.{items_len}
use Rattle.serde_json.specs.Written.{has_float, items_have_float}
use Rattle.json_tree.specs.Canonical.{IsCanonical, ItemsAreCanonical}
use Rattle.json_tree.specs.Writable.{IsWritable, ItemsAreWritable}
use Rattle.game_sheet.specs.Short.{is_plain}
use Rattle.game_sheet.specs.declared.args.Arg.{Arg}
use Rattle.game_sheet.specs.declared.args.Arg.TheVariants.{Whole, Text}
use Rattle.sheet_json.specs.Arguments.{argument, arguments, is_argument, AreArguments, if_argument, argument_in, arguments_in}
use Rattle.json_tree.specs.Fields.{read_each}

-- ---- options

chained : {A B : Type 0} (f : A → Option B) (o : Option A) (b : B) → option_and_then f o ≡ Some b → (a : A) × (o ≡ Some a) × (f a ≡ Some b)
chained f None b e = absurd (cc)
chained f (Some a) b e = (a, refl, e)

mapped : {A B : Type 0} (f : A → B) (o : Option A) (b : B) → option_map f o ≡ Some b → (a : A) × (o ≡ Some a) × (f a ≡ b)
mapped f None b e = absurd (cc)
mapped f (Some a) b e = (a, refl, cc)

chosen : {A : Type 0} (b : Bool) (x y : A) → cond b (Some x) None ≡ Some y → (b ≡ true) × (x ≡ y)
chosen true x y e = (refl, cc)
chosen false x y e = absurd (cc)

onlyif : {A : Type 0} (b : Bool) (rest : Option A) (y : A) → cond b rest None ≡ Some y → (b ≡ true) × (rest ≡ Some y)
onlyif true rest y e = (refl, e)
onlyif false rest y e = absurd (cc)

-- ---- from a value to an argument

-- the value is the argument's, which is one
abbrev Is : Data → Arg → Type 0
Is d a = (d ≡ argument a) × (is_argument a ≡ true)

same : (x a : Arg) → if_argument x ≡ Some a → Is (argument x) a
same x a e = let is = chosen (is_argument x) x a e in (ap argument is.1, subst (λ y. is_argument y ≡ true) is.1 is.0)

kept : (b : Bool) (n : ℕ) (a : Arg) → option_and_then (λ z. if_argument (Whole z)) (cond b (Some (pos n)) None) ≡ Some a → Is (number (unsigned n)) a
kept true n a e = same (Whole (pos n)) a e
kept false n a e = absurd (cc)

pub argument_is : (d : Data) (a : Arg) → argument_in d ≡ Some a → IsCanonical d → Is d a
argument_is null a e c = absurd (cc)
argument_is (boolean b) a e c = absurd (cc)
argument_is (number (unsigned n)) a e c = kept (nat_lt n (2 ^ 63)) n a e
argument_is (number (negative (pos n))) a e c = absurd c
argument_is (number (negative (negsuc n))) a e c = same (Whole (negsuc n)) a e
argument_is (number (float x)) a e c = absurd (cc)
argument_is (string s) a e c = same (Text s) a e
argument_is (array ds) a e c = absurd (cc)
argument_is (object ms) a e c = absurd (cc)

abbrev AreAll : List Arg → Type 0
AreAll args = AllByRecursion (λ a. is_argument a ≡ true) args

-- the values are the arguments', as many, and each is one
abbrev Are : Items → List Arg → Type 0
Are ds args = (ds ≡ arguments args) × AreAll args × (items_len ds ≡ length args)

from_are : (ds : Items) (args : List Arg) → read_each argument_in ds ≡ Some args → ItemsAreCanonical ds → Are ds args
from_are no_items args e c = let is : [] ≡ args = cc in subst (Are no_items) is (refl, tt, refl)
from_are (item d ds) args e c =
    let a = chained (λ x. option_map (λ rest. x ∷ rest) (read_each argument_in ds)) (argument_in d) args e in
    let rest = mapped (λ rest. a.0 ∷ rest) (read_each argument_in ds) args a.2 in
    let first = argument_is d a.0 a.1 c.0 in
    let others = from_are ds rest.0 rest.1 c.1 in
    subst (Are (item d ds)) rest.2 (ap (λ x. item x ds) first.0 ∙ ap (item (argument a.0)) others.0, (first.1, others.1), ap suc others.2)

-- what reads as arguments is their array
pub arguments_are : (ds : Items) (args : List Arg) → arguments_in ds ≡ Some args → ItemsAreCanonical ds → (ds ≡ arguments args) × AreArguments args
arguments_are ds args e c =
    let few = onlyif (nat_le (items_len ds) 8) (read_each argument_in ds) args e in
    let are = from_are ds args few.1 c in
    (are.0, (subst (λ n. n ≤ 8) are.2 (leb-true (items_len ds) 8 few.0), are.1))

-- ---- from an argument to its value and back

pub argument_again : (a : Arg) → is_argument a ≡ true → argument_in (argument a) ≡ Some a
argument_again (Whole (pos n)) h =
    let both = and_parts (int_le (negsuc 2147483647) (pos n)) (int_le (pos n) (pos 2147483647)) h in
    let most : n ≤ 2147483647 = leb-true n 2147483647 both.1 in
    rw (lt-ltb n (2 ^ 63) (omega arith), h) refl
argument_again (Whole (negsuc n)) h = rw (h) refl
argument_again (Text s) h = rw (h) refl

from_again : (args : List Arg) → AreAll args → read_each argument_in (arguments args) ≡ Some args
from_again [] h = refl
from_again (a ∷ args) h = rw (argument_again a h.0, from_again args h.1) refl

length_of : (args : List Arg) → items_len (arguments args) ≡ length args
length_of [] = refl
length_of (a ∷ args) = ap suc (length_of args)

pub arguments_again : (args : List Arg) → AreArguments args → arguments_in (arguments args) ≡ Some args
arguments_again args h = rw (length_of args, le-leb (length args) 8 h.0, from_again args h.1) refl

-- ---- what their array is

of_one : (a : Arg) → has_float (argument a) ≡ false
of_one (Whole (pos n)) = refl
of_one (Whole (negsuc n)) = refl
of_one (Text s) = refl

pub no_float_in : (args : List Arg) → items_have_float (arguments args) ≡ false
no_float_in [] = refl
no_float_in (a ∷ args) = rw (of_one a, no_float_in args) refl

one_flat : (a : Arg) → depth (argument a) ≡ 0
one_flat (Whole z) = refl
one_flat (Text s) = refl

pub flat : (args : List Arg) → items_depth (arguments args) ≡ 0
flat [] = refl
flat (a ∷ args) = rw (one_flat a, flat args) refl

one_writable : (a : Arg) → is_argument a ≡ true → IsWritable (argument a)
one_writable (Whole (pos n)) h = let both = and_parts (int_le (negsuc 2147483647) (pos n)) (int_le (pos n) (pos 2147483647)) h in grind (arith, nat_tests)
one_writable (Whole (negsuc n)) h = let both = and_parts (int_le (negsuc 2147483647) (negsuc n)) (int_le (negsuc n) (pos 2147483647)) h in grind (arith, nat_tests)
one_writable (Text s) h = IsUtf8-from_is_utf8 s (and_parts (nat_le (length s) 64 && is_plain s) (is_utf8 s) h).1

all_writable : (args : List Arg) → AreAll args → ItemsAreWritable (arguments args)
all_writable [] h = tt
all_writable (a ∷ args) h = (one_writable a h.0, all_writable args h.1)

pub arguments_writable : (args : List Arg) → AreArguments args → IsWritable (array (arguments args))
arguments_writable args h = all_writable args h.1
