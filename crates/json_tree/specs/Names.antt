-- Which members of an object have a name outside a list of known ones.
use Rattle.std.specs.Prelude.{ℕ, List, Bool, false, not, ◌||◌}
use Rattle.std.specs.Str.{bytes_eq}
use Rattle.serde_json.specs.Data.{Data, object, Members, no_members, member}
use Rattle.std.specs.List.{list_any}

abbrev pub is_known : List (List ℕ) → List ℕ → Bool
is_known known name = list_any (bytes_eq name) known

abbrev pub has_extra : List (List ℕ) → Members → Bool
has_extra known no_members = false
has_extra known (member k d ms) = not (is_known known k) || has_extra known ms

abbrev pub extra_in : List (List ℕ) → Data → Bool
extra_in known (object ms) = has_extra known ms
extra_in known other = false
