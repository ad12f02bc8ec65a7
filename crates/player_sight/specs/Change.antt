-- What changed between two values that a player was shown, and what a value is once it has changed so.
use Rattle.std.specs.Prelude.{ℕ, List, [], ◌∷◌, map, Bool, false, if◌then◌else◌, bytes_eq, Option, is_some}
use Rattle.serde_json.specs.Data.{Data, string, array, object, Items, no_items, item, Members, member, no_members, put}
use Rattle.serde_json.specs.Find.{get}
use Rattle.serde_json.specs.View.{items_of}
use Rattle.serde_json.specs.Written.{compact_text}
use Rattle.json_tree.specs.Names.{is_known}
use Rattle.std.specs.Option.{option_map_or}

-- whether a value was found, with the text of another
abbrev pub has_text_of : Data → Option Data → Bool
has_text_of d found = option_map_or (λ found. bytes_eq (compact_text found) (compact_text d)) found false

-- the members that an old value lacks or has with another text
abbrev pub changed_members : Data → Members → Members
changed_members old no_members = no_members
changed_members old (member k d ms) = if has_text_of d (get k old) then changed_members old ms else member k d (changed_members old ms)

-- the names that a new value lacks
abbrev pub lost_names : Members → Data → List (List ℕ)
lost_names no_members new = []
lost_names (member k d ms) new = if is_some (get k new) then lost_names ms new else k ∷ lost_names ms new

-- what of a new object is new to an old value; what is no object is new as a whole
abbrev pub put_part : Data → Data → Data
put_part old (object ms) = object (changed_members old ms)
put_part old new = new

-- the members of an object
abbrev pub members_in : Data → Members
members_in (object ms) = ms
members_in other = no_members

-- the names of an old object that a new value lacks
abbrev pub gone_part : Data → Data → Data
gone_part old new = array (items_of (map string (lost_names (members_in old) new)))

-- the texts of a list
abbrev pub text_before : Data → List (List ℕ) → List (List ℕ)
text_before (string s) rest = s ∷ rest
text_before other rest = rest

abbrev pub texts_from : Items → List (List ℕ)
texts_from no_items = []
texts_from (item d ds) = text_before d (texts_from ds)

abbrev pub texts_in : Data → List (List ℕ)
texts_in (array ds) = texts_from ds
texts_in other = []

-- the members but those of some names
abbrev pub without : List (List ℕ) → Members → Members
without names no_members = no_members
without names (member k d ms) = if is_known names k then without names ms else member k d (without names ms)

-- the members, with others put among them
abbrev pub with_members : Members → Members → Members
with_members ms no_members = ms
with_members ms (member k d more) = with_members (put k d ms) more

-- an old object without the members that are gone and with those that are put; what is put, where it is no object
abbrev pub patched : Data → Data → Data → Data
patched old gone (object ms) = object (with_members (without (texts_in gone) (members_in old)) ms)
patched old gone new = new
