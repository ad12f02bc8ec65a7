-- Which values read back from the text that is written for them: integers of 64 bits, no floats, texts in UTF-8, objects with each name once, in byte order.
use Rattle.std.specs.Prelude.{◌<◌, ◌+◌, ◌^◌, pos, negsuc, IsUtf8}
use Rattle.json_tree.specs.Canonical.{AreAbove}
use Rattle.serde_json.specs.Data.{Num, unsigned, negative, float, Data, null, boolean, number, string, array, object, Items, no_items, item, Members, no_members, member}

-- a `u64`, or an `i64` below zero
abbrev pub IsWhole : Num → Type 0
IsWhole (unsigned n) = n < 2 ^ 64
IsWhole (negative (pos n)) = ⊥
IsWhole (negative (negsuc n)) = n + 1 < 2 ^ 63
IsWhole (float x) = ⊥

abbrev mutual
  pub IsWritable : Data → Type 0
  IsWritable null = Unit {0}
  IsWritable (boolean b) = Unit {0}
  IsWritable (number n) = IsWhole n
  IsWritable (string s) = IsUtf8 s
  IsWritable (array ds) = ItemsAreWritable ds
  IsWritable (object ms) = MembersAreWritable ms

  pub ItemsAreWritable : Items → Type 0
  ItemsAreWritable no_items = Unit {0}
  ItemsAreWritable (item d ds) = IsWritable d × ItemsAreWritable ds

  pub MembersAreWritable : Members → Type 0
  MembersAreWritable no_members = Unit {0}
  MembersAreWritable (member k d ms) = AreAbove k ms × IsWritable d × MembersAreWritable ms × IsUtf8 k
