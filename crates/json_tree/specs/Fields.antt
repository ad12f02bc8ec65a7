-- What a member holds in the form that was asked for, or which fault it has.
use Rattle.std.specs.Prelude.{ℕ, List, ℤ, ◌&&◌, if◌then◌else◌, nat_le, int_le, Option, Some, None, Result, Ok, Err, option_map, option_and_then, [], ◌∷◌}
use Rattle.serde_json.specs.Data.{Num, unsigned, negative, float, Data, number, string, array, Items, no_items, item}
use Rattle.serde_json.specs.Find.{as_i64, as_u64}
use Rattle.json_tree.specs.Steps.{◌>>=◌}
use Rattle.json_tree.specs.declared.fields.FieldFault.{FieldFault}
use Rattle.json_tree.specs.declared.fields.FieldFault.TheVariants.{Missing, WrongKind, OutOfRange}
use Rattle.std.specs.Option.{option_map_or}

abbrev pub text_in : Option Data → Result (List ℕ) FieldFault
text_in None = Err Missing
text_in (Some (string s)) = Ok s
text_in (Some other) = Err WrongKind

abbrev pub list_in : Option Data → Result Items FieldFault
list_in None = Err Missing
list_in (Some (array ds)) = Ok ds
list_in (Some other) = Err WrongKind

-- a float is no whole number
abbrev pub whole_number : Num → Result Num FieldFault
whole_number (unsigned n) = Ok (unsigned n)
whole_number (negative z) = Ok (negative z)
whole_number (float x) = Err WrongKind

abbrev pub number_in : Option Data → Result Num FieldFault
number_in None = Err Missing
number_in (Some (number n)) = whole_number n
number_in (Some other) = Err WrongKind

abbrev pub whole_between : ℤ → ℤ → Option ℤ → Result ℤ FieldFault
whole_between lo hi None = Err OutOfRange
whole_between lo hi (Some z) = if int_le lo z && int_le z hi then Ok z else Err OutOfRange

-- a whole number that no `i64` holds is out of every range
abbrev pub whole_in : ℤ → ℤ → Option Data → Result ℤ FieldFault
whole_in lo hi found = number_in found >>= λ n. whole_between lo hi (as_i64 n)

-- a number below zero is out of every range
abbrev pub natural_in : ℕ → Option Data → Result ℕ FieldFault
natural_in most found = number_in found >>= λ n. option_map_or (λ n. if nat_le n most then Ok n else Err OutOfRange) (as_u64 n) (Err OutOfRange)

-- the items, where each of them can be read
abbrev pub read_each : {A : Type 0} → (Data → Option A) → Items → Option (List A)
read_each read no_items = Some []
read_each read (item d ds) = option_and_then (λ x. option_map (λ xs. x ∷ xs) (read_each read ds)) (read d)
