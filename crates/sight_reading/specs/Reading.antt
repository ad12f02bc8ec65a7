-- How the parts of the values are read back; nothing is read where a value is in no form of its part.
use Rattle.std.specs.Prelude.{ℕ, List, if◌then◌else◌, Option, Some, None, option_map, option_and_then, is_some}
use Rattle.std.specs.Result.{result_ok}
use Rattle.serde_json.specs.Data.{Data, Items}
use Rattle.serde_json.specs.Find.{as_null, as_str}
use Rattle.json_tree.specs.Fields.{text_in, natural_in, read_each}
use Rattle.json_tree.specs.Names.{extra_in}

infixl 10 ◌>>=◌
abbrev pub ◌>>=◌ : {A B : Type 0} → Option A → (A → Option B) → Option B
None >>= next = None
Some x >>= next = next x

abbrev pub natural_at : ℕ → Option Data → Option ℕ
natural_at most found = result_ok (natural_in most found)

abbrev pub text_at : Option Data → Option (List ℕ)
text_at found = result_ok (text_in found)

abbrev pub naturals_from : Items → Option (List ℕ)
naturals_from ds = read_each (λ d. natural_at 255 (Some d)) ds

-- null, or what is read in any other value
abbrev pub unless_null : {A : Type 0} → Data → Option A → Option (Option A)
unless_null d read = if is_some (as_null d) then Some None else option_map Some read

-- null, or a name of the sheet
abbrev pub id_or_null : (List ℕ → Option ℕ) → Data → Option (Option ℕ)
id_or_null find d = unless_null d (option_and_then find (as_str d))

-- what was read, where the object has no member but these
abbrev pub of_members : {A : Type 0} → List (List ℕ) → Data → Option A → Option A
of_members names d read = if extra_in names d then None else read
