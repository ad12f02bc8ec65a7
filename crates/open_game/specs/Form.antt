-- How a value is written down as JSON, and what holds of a form that a game's states can have.
use Rattle.std.specs.Prelude.{◌≡◌, Bool, false, IsTrue, Option, Some, IfSome, IsSome}
use Rattle.json_tree.specs.Canonical.{IsCanonical}
use Rattle.json_tree.specs.Writable.{IsWritable}
use Rattle.serde_json.specs.Data.{Data}
use Rattle.serde_json.specs.Find.{as_object}
use Rattle.serde_json.specs.Written.{has_float}

pub record Form (A : Type 0) : Type 0 where
  -- which values have the form
  pub own : A → Bool
  -- what is written of a value
  pub value : A → Data
  -- the own value that is written so, if there is one
  pub read : Data → Option A

-- what was read is own, and is all of what it was read from, where that has the form in which every text is read
abbrev pub IsReadFrom : {A : Type 0} → Form A → Data → A → Type 0
IsReadFrom form v x = IsTrue (form.own x) × (IsCanonical v → form.value x ≡ v)

pub record FormLaws {A : Type 0} (form : Form A) : Type 0 where
  pub float_free : (x : A) → has_float (form.value x) ≡ false
  pub written : (x : A) → IsTrue (form.own x) → IsWritable (form.value x)
  pub reads_back : (x : A) → IsTrue (form.own x) → form.read (form.value x) ≡ Some x
  pub reads : (v : Data) → IfSome (form.read v) (IsReadFrom form v)

-- a state is written as an object
pub record StateLaws {A : Type 0} (form : Form A) : Type 0 where
  pub laws : FormLaws form
  pub object : (x : A) → IsSome (as_object (form.value x))
