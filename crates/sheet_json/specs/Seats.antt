-- A number from 0, or a text, or null in its place, and how such a member is read.
use Rattle.std.specs.Prelude.{◌≤◌, ℕ, Bool, false, if◌then◌else◌, Option, Some, None, is_some, Result, Ok, List, IfSome}
use Rattle.serde_json.specs.Data.{Data, null, number, unsigned, string}
use Rattle.serde_json.specs.Find.{as_null}
use Rattle.json_tree.specs.Steps.{◌>>=◌}
use Rattle.json_tree.specs.declared.fields.FieldFault.{FieldFault}
use Rattle.std.specs.Option.{option_map_or}

abbrev pub natural : ℕ → Data
natural n = number (unsigned n)

abbrev pub natural_or_null : Option ℕ → Data
natural_or_null n = option_map_or natural n null

abbrev pub text_or_null : Option (List ℕ) → Data
text_or_null text = option_map_or string text null

-- the number, where there is one, is at most this
abbrev pub IsWithin : ℕ → Option ℕ → Type 0
IsWithin most found = IfSome found (λ n. n ≤ most)

-- the member is there and null
abbrev pub is_null_in : Option Data → Bool
is_null_in found = option_map_or (λ d. is_some (as_null d)) found false

-- null, or what the form reads
abbrev pub or_null : {A : Type 0} → (Option Data → Result A FieldFault) → Option Data → Result (Option A) FieldFault
or_null form found = if is_null_in found then Ok None else (form found >>= λ x. Ok (Some x))
