-- A value whose compact text reads as the value, also where it stands inside the text of another.
use Rattle.std.specs.Prelude.{◌≡◌, ◌≤◌, Some, IsUtf8, false}
use Rattle.json.specs.Tree as tree
use Rattle.serde_json.specs.Data.{Data, Members, no_members, member, depth}
use Rattle.serde_json.specs.Read.{of_json, max_depth}
use Rattle.serde_json.specs.Written.{outline, compact_text, has_float}
use Rattle.json_tree.specs.Canonical.{AreAbove}

pub record IsTold (d : Data) : Type 0 where
  pub again : of_json (outline d) ≡ Some d
  pub numbers : tree.HasNumbers (outline d)
  pub utf8 : IsUtf8 (compact_text d)
  pub whole : has_float d ≡ false

-- the names rise and are UTF-8, and each value is told
abbrev pub MembersAreTold : Members → Type 0
MembersAreTold no_members = Unit {0}
MembersAreTold (member k d ms) = AreAbove k ms × IsTold d × MembersAreTold ms × IsUtf8 k

-- each value is told, where it is nested at most 127 deep
abbrev pub AreTold : Members → Type 0
AreTold no_members = Unit {0}
AreTold (member k d ms) = (depth d ≤ max_depth → IsTold d) × AreTold ms
