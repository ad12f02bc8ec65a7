-- How what a change says of the context and of the state is read: objects, and a list of the names that are gone.
use Rattle.std.specs.Prelude.{◌+◌, ◌==◌, ◌&&◌, ℕ, [], ◌∷◌, Bool, true, false, nat_le, if◌then◌else◌, is_some, codes, Option, Some, None, option_map, option_and_then, Result, Ok, Err}
use Rattle.serde_json.specs.Data.{Data, array, Items, no_items, item}
use Rattle.serde_json.specs.Find.{get, as_str}
use Rattle.json_tree.specs.Fields.{natural_in}
use Rattle.json_tree.specs.Names.{extra_in}
use Rattle.json_tree.specs.Steps.{◌>>=◌}
use Rattle.json_tree.specs.declared.fields.FieldFault.{FieldFault}
use Rattle.json_tree.specs.declared.fields.FieldFault.TheVariants.{OutOfRange}
use Rattle.wire_json.specs.Acts.{in_form, is_object, object_member_in}

abbrev pub are_texts : Items → Bool
are_texts no_items = true
are_texts (item d ds) = is_some (as_str d) && are_texts ds

abbrev pub is_texts : Data → Bool
is_texts (array ds) = are_texts ds
is_texts other = false

-- the value, where the test holds
abbrev pub if_holds : (Data → Bool) → Option Data → Option Data
if_holds test found = option_and_then (λ d. if test d then Some d else None) found

-- the names that are gone, and the members that are put
unfoldable pub parts_of : Data → Option (Data × Data)
parts_of g = if extra_in (codes "gone" ∷ codes "put" ∷ []) g then None
    else option_and_then (λ gone. option_map (λ put. (gone, put)) (if_holds is_object (get (codes "put") g))) (if_holds is_texts (get (codes "gone") g))

abbrev pub parts_in : Option Data → Result (Data × Data) FieldFault
parts_in found = object_member_in found >>= λ g. in_form (parts_of g)

-- the number of a change is at least 1
abbrev pub later_in : Option Data → Result ℕ FieldFault
later_in found = natural_in 4294967295 found >>= λ n. if nat_le 1 n then Ok n else Err OutOfRange

-- the number before this one
abbrev pub before_in : ℕ → Option Data → Result ℕ FieldFault
before_in at found = natural_in 4294967295 found >>= λ was. if was + 1 == at then Ok was else Err OutOfRange
