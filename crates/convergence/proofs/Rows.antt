-- Objects of fixed names are writable where each of their values is.
use Rattle.std.proofs.Common.{◌≡◌, ◌&&◌, ℕ, Ordering, Bool, true, false, List, IsUtf8, refl}
use Rattle.std.proofs.lemmas.Bool.{and_parts}
use Rattle.std.specs.Ordering.{nat_cmp}
use Rattle.std.specs.declared.cmp.Ordering.TheVariants.{Less, Equal, Greater}
use Rattle.std.specs.Cmp.Lexicographic.{slice_cmp}
use Rattle.json.proofs.Printed.Utf8.{are_ascii, IsUtf8-are_ascii}
use Rattle.json_tree.specs.Canonical.{AreAbove}
use Rattle.json_tree.specs.Writable.{IsWritable, MembersAreWritable}
use Rattle.serde_json.specs.Data.{Data, object, Members, no_members, member}

pub ascii : (s : List ℕ) → are_ascii s ≡ true → IsUtf8 s
ascii s h = IsUtf8-are_ascii s h

-- a name stands below all of these, by computing
abbrev is_less : Ordering → Bool
is_less Less = true
is_less Equal = false
is_less Greater = false

abbrev rises : List ℕ → Members → Bool
rises k no_members = true
rises k (member l d ms) = is_less (slice_cmp nat_cmp k l) && rises k ms

less_is : (o : Ordering) (b : Bool) → (is_less o && b) ≡ true → (o ≡ Less) × (b ≡ true)
less_is Less b h = (refl, h)
less_is Equal b h = cc
less_is Greater b h = cc

above : (k : List ℕ) (ms : Members) → rises k ms ≡ true → AreAbove k ms
above k no_members h = tt
above k (member l d ms) h = let both = less_is (slice_cmp nat_cmp k l) (rises k ms) h in (both.0, above k ms both.1)

abbrev pub all_rise : Members → Bool
all_rise no_members = true
all_rise (member k d ms) = rises k ms && (are_ascii k && all_rise ms)

abbrev pub AreOk : Members → Type 0
AreOk no_members = Unit {0}
AreOk (member k d ms) = IsWritable d × AreOk ms

pub fixed : (ms : Members) → all_rise ms ≡ true → AreOk ms → MembersAreWritable ms
fixed no_members r w = tt
fixed (member k d ms) r w =
    let first = and_parts (rises k ms) (are_ascii k && all_rise ms) r in
    let next = and_parts (are_ascii k) (all_rise ms) first.1 in
    (above k ms first.0, w.0, fixed ms next.1 w.1, ascii k next.0)

abbrev pub rows_of : Data → Members
rows_of (object ms) = ms
rows_of other = no_members
