-- What reading gives: an object has its names once, in byte order, at every level, and a number below zero is written as one.
use Rattle.std.specs.Prelude.{◌≡◌, ℕ, pos, negsuc, List}
use Rattle.std.specs.Ordering.{nat_cmp}
use Rattle.std.specs.declared.cmp.Ordering.TheVariants.{Less}
use Rattle.std.specs.Cmp.Lexicographic.{slice_cmp}
use Rattle.serde_json.specs.Data.{Num, unsigned, negative, float, Data, null, boolean, number, string, array, object, Items, no_items, item, Members, no_members, member}

-- each name stands above `name`
abbrev pub AreAbove : List ℕ → Members → Type 0
AreAbove name no_members = Unit {0}
AreAbove name (member k d ms) = (slice_cmp nat_cmp name k ≡ Less) × AreAbove name ms

-- the names rise, so that none comes twice
abbrev pub IsOrdered : Members → Type 0
IsOrdered no_members = Unit {0}
IsOrdered (member k d ms) = AreAbove k ms × IsOrdered ms

abbrev pub IsProper : Num → Type 0
IsProper (unsigned n) = Unit {0}
IsProper (negative (pos n)) = ⊥
IsProper (negative (negsuc n)) = Unit {0}
IsProper (float x) = Unit {0}

abbrev mutual
  pub IsCanonical : Data → Type 0
  IsCanonical null = Unit {0}
  IsCanonical (boolean b) = Unit {0}
  IsCanonical (number n) = IsProper n
  IsCanonical (string s) = Unit {0}
  IsCanonical (array ds) = ItemsAreCanonical ds
  IsCanonical (object ms) = MembersAreCanonical ms

  pub ItemsAreCanonical : Items → Type 0
  ItemsAreCanonical no_items = Unit {0}
  ItemsAreCanonical (item d ds) = IsCanonical d × ItemsAreCanonical ds

  pub MembersAreCanonical : Members → Type 0
  MembersAreCanonical no_members = Unit {0}
  MembersAreCanonical (member k d ms) = AreAbove k ms × IsCanonical d × MembersAreCanonical ms
