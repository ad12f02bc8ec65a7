-- An object of fixed names is writable where each of its values is: that its names rise and are ASCII is computed.
use Rattle.std.proofs.Common.{◌≡◌, ◌&&◌, ℕ, Ordering, Bool, true, false, List, IsUtf8, refl}
use Rattle.std.proofs.lemmas.Bool.{and_parts}
use Rattle.std.specs.Ordering.{nat_cmp}
use Rattle.std.specs.declared.cmp.Ordering.TheVariants.{Less, Equal, Greater}
use Rattle.std.specs.Cmp.Lexicographic.{slice_cmp}
use Rattle.json.proofs.Printed.Utf8.{are_ascii, IsUtf8-are_ascii}
use Rattle.serde_json.specs.Data.{Data, Members, no_members, member}
use Rattle.json_tree.specs.Canonical.{AreAbove}
use Rattle.json_tree.specs.Writable.{IsWritable, MembersAreWritable}

pub ascii : (s : List ℕ) → are_ascii s ≡ true → IsUtf8 s
ascii s h = IsUtf8-are_ascii s h

abbrev is_less : Ordering → Bool
is_less Less = true
is_less Equal = false
is_less Greater = false

-- each name stands above `k`
abbrev pub rises : List ℕ → Members → Bool
rises k no_members = true
rises k (member l d ms) = is_less (slice_cmp nat_cmp k l) && rises k ms

-- each name stands above those before it, and all are ASCII
abbrev pub all_rise : Members → Bool
all_rise no_members = true
all_rise (member k d ms) = rises k ms && (are_ascii k && all_rise ms)

abbrev pub AreOk : Members → Type 0
AreOk no_members = Unit {0}
AreOk (member k d ms) = IsWritable d × AreOk ms

less_is : (o : Ordering) (b : Bool) → (is_less o && b) ≡ true → (o ≡ Less) × (b ≡ true)
less_is Less b h = (refl, h)
less_is Equal b h = absurd (cc)
less_is Greater b h = absurd (cc)

above : (k : List ℕ) (ms : Members) → rises k ms ≡ true → AreAbove k ms
above k no_members h = tt
above k (member l d ms) h = let both = less_is (slice_cmp nat_cmp k l) (rises k ms) h in (both.0, above k ms both.1)

-- one member more, before those that stand above it
pub row : (k : List ℕ) (d : Data) (ms : Members) → rises k ms ≡ true → are_ascii k ≡ true → IsWritable d → MembersAreWritable ms → MembersAreWritable (member k d ms)
row k d ms r a w h = (above k ms r, w, h, ascii k a)

pub fixed : (ms : Members) → all_rise ms ≡ true → AreOk ms → MembersAreWritable ms
fixed no_members r w = tt
fixed (member k d ms) r w =
    let first = and_parts (rises k ms) (are_ascii k && all_rise ms) r in
    let next = and_parts (are_ascii k) (all_rise ms) first.1 in
    row k d ms first.0 next.0 w.0 (fixed ms next.1 w.1)
